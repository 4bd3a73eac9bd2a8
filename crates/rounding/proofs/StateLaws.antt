-- The random state: each of the three shifts takes only 0 to 0 and keeps within 64 bits, so a draw does.
-- Assumes nothing.
use Prim.Native.Nat.{ℕ, zero, suc, ◌+◌, ◌*◌, ◌/◌, ◌%◌, ◌^◌, ◌<◌}
use mathlib.Core.Path.{◌≡◌, refl, ap, ◌∙◌}
use mathlib.Core.Bool.{Bool, true, false, cond}
use native.Mathlib.Omega.{arith}
use native.Mathlib.Nat.{mod-lt, lt_of_le_of_lt, mul-mod_left, mul-le-mul_left, div-add-mod', zero-add, suc-add}
use lib.Dec.{eqb, lit<}
use borrow.Author.Tests.{eqb-false}
use lib.Pow.{pow_pos, pow-lt, shr_le, mod-mod-pow}
use lib.Bits.{bit_xor, xor_add_and, and_le_l, and_le_r, xor_lt}
use Rattle.rounding.specs.Draws.{seeded, xor_down, xor_up, next_state, state_after}

-- two numbers whose digits differ nowhere are equal
xor_zero : (a b : ℕ) → bit_xor a b ≡ 0 → a ≡ b
xor_zero a b e = omega (arith, xor_add_and a b, and_le_l a b, and_le_r a b)

-- down by at least one place: x is at least twice x / 2 ^ k
down_zero : (k x : ℕ) → 0 < k → xor_down k x ≡ 0 → x ≡ 0
unfolding xor_down
down_zero k x h z =
    let e : x ≡ x / 2 ^ k = xor_zero x (x / 2 ^ k) z in
    omega (arith, ap (λ (n : ℕ). n * 2 ^ k) e, div-add-mod' x (2 ^ k), mul-le-mul_left x (pow-lt h))

-- a number that equals itself moved up by 25 places has its low 25 digits 0, so its low 50, so all 64
fixed_up : (x : ℕ) → x ≡ (x * 2 ^ 25) % 2 ^ 64 → x ≡ 0
fixed_up x e =
    let low25 : x % 2 ^ 25 ≡ 0 = ap (λ (n : ℕ). n % 2 ^ 25) e ∙ mod-mod-pow (x * 2 ^ 25) 39 25 ∙ mul-mod_left x (2 ^ 25) in
    let by50 : x * 2 ^ 25 ≡ x / 2 ^ 25 * 2 ^ 50 = omega arith in
    let up50 : x ≡ x / 2 ^ 25 * 2 ^ 50 % 2 ^ 64 = e ∙ ap (λ (n : ℕ). n % 2 ^ 64) by50 in
    let low50 : x % 2 ^ 50 ≡ 0 = ap (λ (n : ℕ). n % 2 ^ 50) up50 ∙ mod-mod-pow (x / 2 ^ 25 * 2 ^ 50) 14 50 ∙ mul-mod_left (x / 2 ^ 25) (2 ^ 50) in
    let by64 : x * 2 ^ 25 ≡ x / 2 ^ 50 * 2 ^ 11 * 2 ^ 64 = omega arith in
    e ∙ ap (λ (n : ℕ). n % 2 ^ 64) by64 ∙ mul-mod_left (x / 2 ^ 50 * 2 ^ 11) (2 ^ 64)

up_zero : (x : ℕ) → xor_up 25 x ≡ 0 → x ≡ 0
unfolding xor_up
up_zero x e = fixed_up x (xor_zero x ((x * 2 ^ 25) % 2 ^ 64) e)

down_lt : (k x : ℕ) → x < 2 ^ 64 → xor_down k x < 2 ^ 64
unfolding xor_down
down_lt k x h = xor_lt 64 x (x / 2 ^ k) h (lt_of_le_of_lt (shr_le x k) h)

up_lt : (k x : ℕ) → x < 2 ^ 64 → xor_up k x < 2 ^ 64
unfolding xor_up
up_lt k x h = xor_lt 64 x ((x * 2 ^ k) % 2 ^ 64) h (mod-lt (x * 2 ^ k) (pow_pos 64))

pub next_lt : (x : ℕ) → x < 2 ^ 64 → next_state x < 2 ^ 64
unfolding next_state
next_lt x h = down_lt _ _ (up_lt _ _ (down_lt _ x h))

pub next_nonzero : (x : ℕ) → (x ≡ 0 → ⊥) → next_state x ≡ 0 → ⊥
unfolding next_state
next_nonzero x n e = n (down_zero _ x (lit< tt) (up_zero _ (down_zero _ _ (lit< tt) e)))

pub seeded_nonzero : (seed : ℕ) → seeded seed ≡ 0 → ⊥
unfolding seeded
seeded_nonzero seed = go (eqb seed 0) refl
  where
    go : (b : Bool) → eqb seed 0 ≡ b → cond b 0x9E3779B97F4A7C15 seed ≡ 0 → ⊥
    go true e q = omega arith
    go false e q = eqb-false seed 0 e q

-- draws one after another
pub after_add : (a b x : ℕ) → state_after (a + b) x ≡ state_after b (state_after a x)
unfolding state_after
after_add zero b x = rw zero-add refl
after_add (suc a) b x = rw suc-add (after_add a b (next_state x))

pub after_nonzero : (k x : ℕ) → (x ≡ 0 → ⊥) → state_after k x ≡ 0 → ⊥
unfolding state_after
after_nonzero zero x n = n
after_nonzero (suc k) x n = after_nonzero k (next_state x) (next_nonzero x n)

pub after_lt : (k x : ℕ) → x < 2 ^ 64 → state_after k x < 2 ^ 64
unfolding state_after
after_lt zero x h = h
after_lt (suc k) x h = after_lt k (next_state x) (next_lt x h)
