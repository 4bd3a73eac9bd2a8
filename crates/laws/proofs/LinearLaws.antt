-- The Linear figure, under + fraction × oldest, rounds once at the product and once at the sum, and lies from the Under to the Over figure:
-- rounding keeps the order of fractions.
use mathlib.Core.Path.{◌≡◌, sym, ap, ◌∙◌, subst}
use mathlib.Core.Bool.{Bool, true, false, cond}
use mathlib.Core.Logic.{⊎_elim}
use Prim.Native.Nat.{ℕ, ◌+◌, ◌-◌, ◌*◌, ◌^◌, ◌≤◌, ◌<◌}
use native.Mathlib.Nat.{mul-one, one-mul, zero-mul, add-mul, mul_comm, mul-pos, mul-le-mul_right, sub-zero, not-suc-le-zero}
use native.Mathlib.Omega.{arith}
use lib.IntN.{ℤ, pos}
use lib.Dec.{T, leb, ltb, leb→le, ltb→lt}
use lib.Pow.{pow_pos}
use lib.Ieee.{Float, fin, binary64, low, up, down, round, add, sum, mul, le}
use lib.Ieee.Fits.{down_pos}
use lib.Ieee.Exact.{HasValue}
use lib.Ieee.Order.{round_mono}
use lib.Ieee.Scale.{round_same, grid}
use lib.Ieee.Positive.{num, den, den_pos}
use Rattle.laws.specs.Figure.{figure}
use Rattle.laws.proofs.FractionValues.{of_value, value_add, value_mul, value_le, round_number}
use Rattle.laws.proofs.FigureLaws.{one_pos, figure_is, figure_value}
use Rattle.laws.specs.Unit.{in_unit}
use Rattle.laws.proofs.UnitLaws.{unit_cases}

-- under + fraction × oldest
abbrev linear : ℕ → ℕ → Float → Float
linear u o x = add binary64 (figure u) (mul binary64 x (figure o))

pub record Between (lo hi x : Float) : Type 0 where
  pub above : T (le lo x)
  pub below : T (le x hi)

-- For a fraction a / c: the product is a / c × oldest rounded once, so many g of the smallest f64, and the figure is under + that, rounded once.
pub record RoundsOnce (u o a c : ℕ) (x : Float) : Type 0 where
  pub g : ℕ
  pub product : mul binary64 x (figure o) ≡ round binary64 false (a * o) c
  pub value : HasValue (mul binary64 x (figure o)) false g (2 ^ low binary64)
  pub total : add binary64 (figure u) (mul binary64 x (figure o)) ≡ round binary64 false (u * 2 ^ low binary64 + g) (2 ^ low binary64)
  pub small : g ≤ o * 2 ^ low binary64

module _ (u o : ℕ) (hu : u ≤ 2 ^ 53) (ho : o ≤ 2 ^ 53) where
  sum_once : (p : Float) (g k : ℕ) → 0 < k → HasValue p false g k → add binary64 (figure u) p ≡ round binary64 false (u * k + g) k
  sum_once p g k K v = value_add (figure u) p u 1 g k one_pos K (figure_value u hu) v ∙ simp (one-mul, mul-one)

  pub linear_rounds : (x : Float) (a c : ℕ) → 0 < c → a ≤ c → HasValue x false a c → RoundsOnce u o a c x
  linear_rounds x a c C h v =
      let P = round binary64 false (a * o) c in
      let g = grid binary64 (a * o) c in
      let k = 2 ^ low binary64 in
      let is : mul binary64 x (figure o) ≡ P = value_mul x (figure o) a c o 1 C one_pos v (figure_value o ho) ∙ simp mul-one in
      let l : T (le P (figure o)) = rw (figure_is o) (round_mono binary64 (a * o) c o 1 C one_pos (omega (arith, mul-le-mul_right o h, mul_comm o c))) in
      let w : HasValue P false g k = round_number (a * o) c o 1 (figure o) (figure_value o ho) l in
      let t : T (leb (g * 1) (o * k)) = subst T (value_le P (figure o) g k o 1 (pow_pos (low binary64)) one_pos w (figure_value o ho)) l in
      let s : g ≤ o * k = rw (mul-one g) at (leb→le (g * 1) (o * k) t) in
      record { g = g; product = is; value = rw is w; total = rw is (sum_once P g k (pow_pos (low binary64)) w); small = s }

  between_rounds : (g k : ℕ) → 0 < k → g ≤ o * k → Between (figure u) (figure (u + o)) (round binary64 false (u * k + g) k)
  between_rounds g k K h = record {
    above = rw (figure_is u) (round_mono binary64 u 1 (u * k + g) k one_pos K (omega arith));
    below = rw (figure_is (u + o)) (round_mono binary64 (u * k + g) k (u + o) 1 K one_pos (omega (arith, add-mul u o k)));
  }

  linear_between : (x : Float) (a c : ℕ) → 0 < c → a ≤ c → HasValue x false a c → Between (figure u) (figure (u + o)) (linear u o x)
  linear_between x a c C h v =
      let once = linear_rounds x a c C h v in
      rw once.total (between_rounds once.g (2 ^ low binary64) (pow_pos (low binary64)) once.small)

  -- at -0.0 the product is -0.0, and adding that changes nothing
  minus_zero : (e : ℤ) (n : ℕ) (g : ℤ) → mul binary64 (fin true 0 e) (fin false n g) ≡ fin true 0 (pos 0)
  unfolding mul round
  minus_zero e n g = round_same binary64 true (0 * up e * (n * up g)) (down e * down g) 0 1 (mul-pos (down_pos e) (down_pos g)) one_pos (simp zero-mul)

  add_minus_zero : (m : ℕ) (e : ℤ) → m * up e * 1 ≡ u * down e → add binary64 (fin false m e) (fin true 0 (pos 0)) ≡ round binary64 false u 1
  unfolding add sum
  add_minus_zero m e v = go (ltb (m * up e * 1) (0 * down e)) (ltb→lt (m * up e * 1) (0 * down e))
    where
      go : (b : Bool) → (T b → m * up e * 1 < 0 * down e)
          → cond b (round binary64 true (0 * down e - m * up e * 1) (down e * 1)) (round binary64 false (m * up e * 1 - 0 * down e) (down e * 1))
          ≡ round binary64 false u 1
      go true k = absurd (not-suc-le-zero (subst (λ (n : ℕ). m * up e * 1 < n) (zero-mul (down e)) (k tt)))
      go false k =
          round_same binary64 false (m * up e * 1 - 0 * down e) (down e * 1) u 1 (mul-pos (down_pos e) one_pos) one_pos
          (mul-one (m * up e * 1 - 0 * down e) ∙ ap (λ (n : ℕ). m * up e * 1 - n) (zero-mul (down e)) ∙ sub-zero (m * up e * 1) ∙ v
          ∙ ap (λ (n : ℕ). u * n) (sym (mul-one (down e))))

  pub linear_at_minus_zero : (e : ℤ) → add binary64 (figure u) (mul binary64 (fin true 0 e) (figure o)) ≡ figure u
  linear_at_minus_zero e =
      let product : mul binary64 (fin true 0 e) (figure o) ≡ fin true 0 (pos 0) =
      of_value (λ (y : Float). mul binary64 (fin true 0 e) y ≡ fin true 0 (pos 0)) (figure o) o 1 (figure_value o ho) (λ n g q. minus_zero e n g)
      in
      let same : add binary64 (figure u) (fin true 0 (pos 0)) ≡ round binary64 false u 1 =
      of_value (λ (y : Float). add binary64 y (fin true 0 (pos 0)) ≡ round binary64 false u 1) (figure u) u 1 (figure_value u hu)
      (λ m g q. add_minus_zero m g q)
      in
      ap (add binary64 (figure u)) product ∙ same ∙ sym (figure_is u)

  between_under : Between (figure u) (figure (u + o)) (figure u)
  between_under = record {
    above = rw (figure_is u) (round_mono binary64 u 1 u 1 one_pos one_pos (omega arith));
    below = rw (figure_is u, figure_is (u + o)) (round_mono binary64 u 1 (u + o) 1 one_pos one_pos (omega arith));
  }

  pub linear_in_unit : (x : Float) → in_unit x ≡ true → Between (figure u) (figure (u + o)) (add binary64 (figure u) (mul binary64 x (figure o)))
  linear_in_unit x t =
      ⊎_elim
      (λ w. rw (ap (linear u o) w.1 ∙ linear_at_minus_zero w.0) between_under)
      (λ w. linear_between x (num x) (den x) (den_pos x) w.1 w.0)
      (unit_cases x t)
