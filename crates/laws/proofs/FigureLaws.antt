-- Whole numbers up to 2 ^ 53 as f64: each is held exactly, so a sum or a difference is the figure of the whole-number result, and a quotient
-- is rounded once. A result of at most 2 ^ 53 is again the whole number itself.
use mathlib.Core.Path.{◌≡◌, refl, sym, ◌∙◌, subst}
use mathlib.Core.Bool.{false}
use Prim.Native.Nat.{ℕ, ◌+◌, ◌-◌, ◌^◌, ◌≤◌, ◌<◌}
use native.Mathlib.Nat.{zero-lt-suc, mul-one, one-mul}
use native.Mathlib.Omega.{arith}
use lib.IntN.{pos}
use lib.Dec.{T, le→leb}
use lib.Ieee.{Float, binary64, round, add, sub, div, of_int, in_float, of_bits}
use lib.Ieee.Exact.{HasValue}
use lib.Ieee.Back.{round_whole}
use Rattle.laws.specs.Figure.{figure}
use Rattle.laws.proofs.FractionValues.{value_add, value_sub, value_div}

-- what the cast of a u64 asks
pub castable : (n : ℕ) → n ≤ 2 ^ 53 → T (in_float binary64 (pos n))
unfolding in_float
castable n h = le→leb n (2 ^ 53) h

pub figure_is : (n : ℕ) → figure n ≡ round binary64 false n 1
unfolding of_int
figure_is n = refl

pub figure_value : (n : ℕ) → n ≤ 2 ^ 53 → HasValue (figure n) false n 1
figure_value n h = subst (λ (x : Float). HasValue x false n 1) (sym (figure_is n)) (round_whole binary64 false n h)

-- the literals 0.0 and 1.0 of the code, which stand there by their bits
pub zero_is : of_bits binary64 0 ≡ figure 0
unfolding of_bits of_int
zero_is = refl

pub one_is : of_bits binary64 0x3ff0_0000_0000_0000 ≡ figure 1
unfolding of_bits of_int
one_is = refl

pub one_pos : 0 < 1
one_pos = zero-lt-suc 0

module _ (a b : ℕ) (h : a ≤ 2 ^ 53) (k : b ≤ 2 ^ 53) where
  pub figure_add : add binary64 (figure a) (figure b) ≡ figure (a + b)
  figure_add = value_add (figure a) (figure b) a 1 b 1 one_pos one_pos (figure_value a h) (figure_value b k) ∙ simp mul-one (sym (figure_is (a + b)))

  pub figure_sub : b ≤ a → sub binary64 (figure a) (figure b) ≡ figure (a - b)
  figure_sub l =
      value_sub (figure a) (figure b) a 1 b 1 one_pos one_pos (figure_value a h) (figure_value b k) (omega arith)
      ∙ simp mul-one (sym (figure_is (a - b)))

  pub figure_div : 0 < b → div binary64 (figure a) (figure b) ≡ round binary64 false a b
  figure_div B = value_div (figure a) (figure b) a 1 b 1 one_pos one_pos (figure_value a h) (figure_value b k) B ∙ simp (mul-one, one-mul)
