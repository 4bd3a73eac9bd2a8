-- Each flag adds a power of two that the flags before it stay below, so a division finds it again. Assumes nothing.
use Prim.Native.Nat.{ℕ, zero, suc, ◌+◌, ◌-◌, ◌*◌, ◌^◌, ◌<◌}
use mathlib.Core.Path.{◌≡◌, refl, ◌∙◌}
use mathlib.Core.Bool.{Bool, true, false, cond}
use native.Mathlib.Omega.{arith}
use native.Mathlib.Nat.{add-mul-div_right, div-eq_of_lt, add-mul-mod_self_right}
use lib.Pow.{pow_pos, pow-add}
use Rattle.codes.specs.Codes.{flag_at, flags_of}

-- THEY FIT: n flags are below 2 ^ n
flags_on : (b : Bool) (x n : ℕ) → x < 2 ^ n → x + cond b (2 ^ n) 0 < 2 ^ suc n
flags_on true x n h = omega arith
flags_on false x n h = omega arith

pub flags_below : (now : ℕ → Bool) (n : ℕ) → flags_of now n < 2 ^ n
unfolding flags_of
flags_below now zero = omega arith
flags_below now (suc n) = flags_on (now n) (flags_of now n) n (flags_below now n)

-- THE LAST FLAG, and one that stands j places before it
last_flag : (b : Bool) (x n : ℕ) → x < 2 ^ n → flag_at (x + cond b (2 ^ n) 0) n ≡ b
last_flag true x n h =
    let e : x + 2 ^ n ≡ x + 1 * 2 ^ n = omega arith in
    rw (e, add-mul-div_right x 1 (pow_pos n), div-eq_of_lt h) refl
last_flag false x n h =
    let e : x + 0 ≡ x = omega arith in
    rw (e, div-eq_of_lt h) refl

earlier_flag : (b : Bool) (x i j : ℕ) → flag_at (x + cond b (2 ^ (suc j + i)) 0) i ≡ flag_at x i
earlier_flag true x i j =
    let twice : 2 ^ suc j ≡ 2 ^ j * 2 = omega arith in
    rw (pow-add 2 (suc j) i, add-mul-div_right x (2 ^ suc j) (pow_pos i), twice, add-mul-mod_self_right) refl
earlier_flag false x i j =
    let e : x + 0 ≡ x = omega arith in
    rw e refl

-- EACH FLAG says what it was made of
flag_from : (now : ℕ → Bool) (i j m : ℕ) → m ≡ j + i → flag_at (flags_of now (suc m)) i ≡ now i
unfolding flags_of
flag_from now i zero m e =
    let same : m ≡ i = omega arith in
    rw same (last_flag (now i) (flags_of now i) i (flags_below now i))
flag_from now i (suc j) zero e = absurd (omega arith)
flag_from now i (suc j) (suc m) e =
    let place : suc j + i ≡ suc m = omega arith in
    (rw place at (earlier_flag (now (suc m)) (flags_of now (suc m)) i j)) ∙ flag_from now i j m (omega arith)

pub flag_of : (now : ℕ → Bool) (n i : ℕ) → i < n → flag_at (flags_of now n) i ≡ now i
flag_of now zero i h = absurd (omega arith)
flag_of now (suc m) i h = flag_from now i (m - i) m (omega arith)
