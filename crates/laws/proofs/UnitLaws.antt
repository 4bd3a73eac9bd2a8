-- The clock's fraction, 1.0 − remainder / length, is from 0 to 1: rounding keeps the order of fractions, so the rounded quotient is at most 1,
-- and the rounded difference from 0 to 1.
use mathlib.Core.Path.{◌≡◌, refl, sym, ap, ◌∙◌, subst}
use mathlib.Core.Bool.{true, false, not}
use mathlib.Core.Logic.{◌⊎◌, inl, inr, ⊎_elim}
use Prim.Native.Nat.{ℕ, ◌-◌, ◌*◌, ◌^◌, ◌≤◌, ◌<◌}
use native.Mathlib.Nat.{mul-one, one-mul, zero-mul, mul-pos, eq-zero-or-pos, lt_irrefl}
use native.Mathlib.Omega.{arith}
use lib.IntN.{ℤ, pos}
use lib.Dec.{T, eqb, leb→le, eqb→eq}
use lib.Pow.{pow_pos}
use lib.Ieee.{Float, nan, inf, fin, binary64, low, up, down, round, sub, div, le, of_int, is_nan}
use lib.Ieee.Bits.{is_true}
use lib.Ieee.Fits.{and_i, and_l, and_r, down_pos, up_pos}
use lib.Ieee.Exact.{HasValue}
use lib.Ieee.Order.{round_mono}
use lib.Ieee.Scale.{grid}
use lib.Ieee.Positive.{num, den}
use Rattle.laws.specs.Figure.{figure}
use Rattle.laws.specs.Unit.{in_unit}
use Rattle.laws.proofs.FractionValues.{value_sub, value_le, round_number}
use Rattle.laws.proofs.FigureLaws.{one_pos, figure_is, figure_value, figure_div}

one_value : HasValue (figure 1) false 1 1
one_value = figure_value 1 (omega arith)

-- a fraction of at most 1 is one of 0 to 1 when it is rounded
rounded_unit : (a c : ℕ) → 0 < c → a ≤ c → T (in_unit (round binary64 false a c))
rounded_unit a c C h =
    and_i (le (figure 0) (round binary64 false a c)) (le (round binary64 false a c) (figure 1))
    (rw (figure_is 0) (round_mono binary64 0 1 a c one_pos C (omega arith)))
    (rw (figure_is 1) (round_mono binary64 a c 1 1 C one_pos (omega arith)))

below_one : (q : Float) (g u : ℕ) → 0 < u → HasValue q false g u → T (le q (figure 1)) → g ≤ u
below_one q g u U v t =
    let s : g * 1 ≤ 1 * u = leb→le (g * 1) (1 * u) (subst T (value_le q (figure 1) g u 1 1 U one_pos v one_value) t) in
    omega arith

-- 1 − g / u
difference_unit : (q : Float) (g u : ℕ) → 0 < u → HasValue q false g u → T (le q (figure 1)) → T (in_unit (sub binary64 (figure 1) q))
difference_unit q g u U v t =
    let h : g ≤ u = below_one q g u U v t in
    let is : sub binary64 (figure 1) q ≡ round binary64 false (u - g) u =
    value_sub (figure 1) q 1 1 g u one_pos U one_value v (omega arith) ∙ simp (mul-one, one-mul)
    in
    rw is (rounded_unit (u - g) u U (omega arith))

pub fraction_unit : (rem len : ℕ) → rem ≤ len → 0 < len → len ≤ 2 ^ 53 → in_unit (sub binary64 (figure 1) (div binary64 (figure rem) (figure len))) ≡ true
fraction_unit rem len h p k =
    let q = round binary64 false rem len in
    let below : T (le q (figure 1)) = and_r (le (figure 0) q) (le q (figure 1)) (rounded_unit rem len p h) in
    let value : HasValue q false (grid binary64 rem len) (2 ^ low binary64) = round_number rem len 1 1 (figure 1) one_value below in
    is_true _ (rw (figure_div rem len (omega arith) k p) (difference_unit q (grid binary64 rem len) (2 ^ low binary64) (pow_pos (low binary64)) value below))

pub zero_unit : in_unit (figure 0) ≡ true
unfolding le of_int
zero_unit = refl

-- ---- what passes `in_unit`: -0.0, or a number a / c with a ≤ c
zero_fig : figure 0 ≡ fin false 0 (pos 0)
unfolding of_int
zero_fig = refl

one_fig : figure 1 ≡ fin false 1 (pos 0)
unfolding of_int
one_fig = refl

abbrev pub UnitCases : Float → Type 0
UnitCases x = ((e : ℤ) × (x ≡ fin true 0 e)) ⊎ (HasValue x false (num x) (den x) × (num x ≤ den x))

no_size : (m : ℕ) (e : ℤ) → 0 * down e ≡ m * up e * 1 → m ≡ 0
no_size m e h =
    let none : m * up e ≡ 0 = sym (mul-one (m * up e)) ∙ sym h ∙ zero-mul (down e) in
    ⊎_elim (λ z. z) (λ p. absurd (lt_irrefl 0 (subst (λ (n : ℕ). 0 < n) none (mul-pos p (up_pos e))))) (eq-zero-or-pos m)

cases_at : (x : Float) → T (le (fin false 0 (pos 0)) x) → T (le x (fin false 1 (pos 0))) → T (le x (figure 1)) → UnitCases x
unfolding le
cases_at nan h k t = absurd h
cases_at (inf true) h k t = absurd h
cases_at (inf false) h k t = absurd k
cases_at (fin true m e) h k t =
    let same = eqb→eq (0 * down e) (m * up e * 1) (and_l (eqb (0 * down e) (m * up e * 1)) (eqb (0 * down e) 0) h) in
    inl (e, ap (λ (n : ℕ). fin true n e) (no_size m e same))
cases_at (fin false m e) h k t = inr ((refl, refl), below_one (fin false m e) (m * up e) (down e) (down_pos e) (refl, refl) t)

pub unit_cases : (x : Float) → in_unit x ≡ true → UnitCases x
unit_cases x e =
    let t : T (in_unit x) = subst T (sym e) tt in
    let low = and_l (le (figure 0) x) (le x (figure 1)) t in
    let high = and_r (le (figure 0) x) (le x (figure 1)) t in
    cases_at x (rw zero_fig at low) (rw one_fig at high) high

-- a NaN does not pass: so a fraction has bits to print
pub unit_number : (x : Float) → in_unit x ≡ true → T (not (is_nan x))
unfolding le of_int is_nan
unit_number nan e = subst T (sym e) tt
unit_number (inf s) e = tt
unit_number (fin s m k) e = tt
