-- What a clock keeps, and how n and the fraction follow what has passed: a tick or a reading only ever raises that, and a quotient grows with its dividend.
use Prim.Native.Nat.{ℕ, zero, suc, ◌+◌, ◌-◌, ◌*◌, ◌/◌, ◌%◌, ◌^◌, ◌≤◌, ◌<◌, max}
use mathlib.Core.Path.{◌≡◌, refl, sym, ap, ◌∙◌}
use mathlib.Core.Bool.{Bool, true, false}
use native.Mathlib.Nat.{div-zero, zero-div, zero-mod, mod-lt, le-div_iff_mul-le, div-mul-le_self, lt-div-mul-add}
use native.Mathlib.Nat.{div-eq_of_eq-mul_left, div-eq_of_lt-le, add-div_right, add-mul, zero-lt-suc, le_trans, le_of_lt, max-eq_left, max-eq_right}
use native.Mathlib.Omega.{arith}
use lib.Ieee.{binary64, div}
use lib.Ieee.Scale.{round_same}
use lib.Dec.{leb}
use borrow.Author.Tests.{leb-true, leb-false}
use Rattle.laws.specs.Figure.{figure}
use Rattle.laws.proofs.FigureLaws.{figure_is, figure_sub, figure_div}
use Rattle.laws.specs.Unit.{in_unit}
use Rattle.laws.proofs.UnitLaws.{fraction_unit}
use Rattle.clock.specs.declared.SubWindowClock.{SubWindowClock}
use Rattle.clock.specs.declared.SubWindowClock.TheVariants.{CountBased, TimeBased}
use Rattle.clock.specs.Clock.{reading_of, length_of, passed_of, n_of, fraction_of, is_count, tick_of, advance_of, start_of, same_frame}
use Rattle.clock.specs.Workers.{GoodLength}

-- ---- kind, length and epoch stay
pub record Keeps (k k' : SubWindowClock) : Type 0 where
  pub kind : is_count k' ≡ is_count k
  pub length : length_of k' ≡ length_of k
  pub frame : (j : SubWindowClock) → same_frame k' j ≡ same_frame k j

-- clocks that differ in their reading alone
count_keeps : (l s s' : ℕ) → Keeps (CountBased l s) (CountBased l s')
count_keeps l s s' = record { kind = refl; length = refl; frame = same }
  where
    same : (j : SubWindowClock) → same_frame (CountBased l s') j ≡ same_frame (CountBased l s) j
    same (CountBased l' t) = refl
    same (TimeBased l' e' t) = refl

time_keeps : (l e n n' : ℕ) → Keeps (TimeBased l e n) (TimeBased l e n')
time_keeps l e n n' = record { kind = refl; length = refl; frame = same }
  where
    same : (j : SubWindowClock) → same_frame (TimeBased l e n') j ≡ same_frame (TimeBased l e n) j
    same (CountBased l' t) = refl
    same (TimeBased l' e' t) = refl

pub tick_keeps : (k : SubWindowClock) → Keeps k (tick_of k)
tick_keeps (CountBased l s) = count_keeps l s _
tick_keeps (TimeBased l e n) = time_keeps l e n n

pub advance_keeps : (k : SubWindowClock) (reading : ℕ) → Keeps k (advance_of k reading)
advance_keeps (CountBased l s) reading = count_keeps l s s
advance_keeps (TimeBased l e n) reading = time_keeps l e n _

pub start_keeps : (k : SubWindowClock) → Keeps k (start_of k)
start_keeps (CountBased l s) = count_keeps l s 0
start_keeps (TimeBased l e n) = time_keeps l e n e

-- ---- the reading stays a u64
pub tick_reading : (k : SubWindowClock) → reading_of k < 2 ^ 64 → reading_of (tick_of k) < 2 ^ 64
tick_reading (CountBased l s) h = omega arith
tick_reading (TimeBased l e n) h = h

-- ---- n
quotient_grows : (d : ℕ) {a b : ℕ} → a ≤ b → a / d ≤ b / d
quotient_grows zero h = simp div-zero (omega arith)
quotient_grows (suc d) {a} h = (le-div_iff_mul-le (zero-lt-suc d)).1 (le_trans (div-mul-le_self a (suc d)) h)

quotient_step : (d a : ℕ) → (a + 1) / d ≤ a / d + 1
quotient_step zero a = simp div-zero (omega arith)
quotient_step (suc d) a = rw (← add-div_right a (zero-lt-suc d)) (quotient_grows (suc d) (omega arith))

-- one more fills the piece, and the next begins; or it does not, and the quotient stays
pub quotient_next : (d a q : ℕ) → q ≡ a / d → a + 1 - q * d ≡ d → (a + 1) / d ≡ q + 1
quotient_next zero a q is e = omega arith
quotient_next (suc d) a q is e =
    let low : q * suc d ≤ a = rw is (div-mul-le_self a (suc d)) in
    div-eq_of_eq-mul_left (zero-lt-suc d) (omega (arith, add-mul q 1 (suc d)))

pub quotient_stays : (d a q : ℕ) → q ≡ a / d → (a + 1 - q * d ≡ d → ⊥) → (a + 1) / d ≡ q
quotient_stays zero a q is e = rw (div-zero, is, div-zero) refl
quotient_stays (suc d) a q is e =
    let low : q * suc d ≤ a = rw is (div-mul-le_self a (suc d)) in
    let high : a < q * suc d + suc d = rw is (lt-div-mul-add (zero-lt-suc d)) in
    div-eq_of_lt-le (suc d) (omega arith) (omega (arith, add-mul q 1 (suc d)))

pub no_length_n : (k : SubWindowClock) (length : ℕ) → length ≡ length_of k → length ≡ 0 → 0 ≡ n_of k
unfolding n_of
no_length_n k length e z =
    let q : length_of k ≡ 0 = sym e ∙ z in
    rw q (sym (div-zero (passed_of k)))

pub start_n : (k : SubWindowClock) → n_of (start_of k) ≡ 0
unfolding n_of
start_n (CountBased l s) = zero-div l
start_n (TimeBased l e n) = ap (λ (p : ℕ). p / l) (omega arith) ∙ zero-div l

pub tick_grows : (k : SubWindowClock) → reading_of k < 2 ^ 64 → n_of k ≤ n_of (tick_of k)
unfolding n_of
tick_grows (CountBased l s) h = quotient_grows l (omega arith)
tick_grows (TimeBased l e n) h = omega arith

pub tick_step : (k : SubWindowClock) → n_of (tick_of k) ≤ n_of k + 1
unfolding n_of
tick_step (CountBased l s) = le_trans (quotient_grows l (omega arith)) (quotient_step l s)
tick_step (TimeBased l e n) = omega arith

pub advance_grows : (k : SubWindowClock) (reading : ℕ) → n_of k ≤ n_of (advance_of k reading)
unfolding n_of
advance_grows (CountBased l s) reading = omega arith
advance_grows (TimeBased l e n) reading = quotient_grows l (omega arith)

-- after an advance n is that of the later of the two readings
pub advance_later : (l e n reading : ℕ) → n_of (advance_of (TimeBased l e n) reading) ≡ max (n_of (TimeBased l e n)) (n_of (TimeBased l e reading))
unfolding n_of
advance_later l e n reading = go (leb n reading) refl
  where
    go : (b : Bool) → leb n reading ≡ b → (max n reading - e) / l ≡ max ((n - e) / l) ((reading - e) / l)
    go true t =
        let h = leb-true n reading t in
        let q : (n - e) / l ≤ (reading - e) / l = quotient_grows l (omega arith) in
        rw (max-eq_right h, max-eq_right q) refl
    go false t =
        let h = le_of_lt (leb-false n reading t) in
        let q : (reading - e) / l ≤ (n - e) / l = quotient_grows l (omega arith) in
        rw (max-eq_left h, max-eq_left q) refl

-- ---- the fraction
pub fraction_in_unit : (k : SubWindowClock) → GoodLength k → in_unit (fraction_of k) ≡ true
unfolding fraction_of
fraction_in_unit k good =
    let below : passed_of k % length_of k < length_of k = mod-lt (passed_of k) good.some in
    fraction_unit (passed_of k % length_of k) (length_of k) (omega arith) good.some good.short

-- at a boundary the whole of the oldest sub-window is still inside
pub fraction_whole : (k : SubWindowClock) → GoodLength k → passed_of k % length_of k ≡ 0 → fraction_of k ≡ figure 1
unfolding fraction_of
fraction_whole k good e =
    let l = length_of k in
    let none : div binary64 (figure 0) (figure l) ≡ figure 0 =
    figure_div 0 l (omega arith) good.short good.some
    ∙ round_same binary64 false 0 l 0 1 good.some (zero-lt-suc 0) (omega arith) ∙ sym (figure_is 0)
    in
    rw (e, none) (figure_sub 1 0 (omega arith) (omega arith) (omega arith))

-- ---- before the epoch
pub early_n : (l e n : ℕ) → n ≤ e → n_of (TimeBased l e n) ≡ 0
unfolding n_of
early_n l e n h = ap (λ (p : ℕ). p / l) (omega arith) ∙ zero-div l

pub early_fraction : (l e n : ℕ) → GoodLength (TimeBased l e n) → n ≤ e → fraction_of (TimeBased l e n) ≡ figure 1
early_fraction l e n good h = fraction_whole (TimeBased l e n) good (ap (λ (p : ℕ). p % l) (omega arith) ∙ zero-mod l)
