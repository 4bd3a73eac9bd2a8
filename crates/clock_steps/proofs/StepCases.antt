-- The ways out of the steps, in the form in which the code comes to them: which variant the clock is, and what the tests said.
use Prim.Native.Nat.{ℕ, ◌+◌, ◌-◌, ◌*◌, ◌/◌, ◌%◌, ◌^◌, ◌≤◌, ◌<◌}
use mathlib.Core.Path.{◌≡◌, refl, sym, ap, ◌∙◌}
use native.Mathlib.Nat.{le_refl, mod-lt, div-mul-le_self, div-le_self}
use native.Mathlib.Omega.{arith}
use lib.IntN.{pos}
use lib.Dec.{T, eqb}
use lib.Ieee.{binary64, of_bits, in_float, sub, div}
use borrow.Author.Tests.{lt-ltb, le-ltb, eq-eqb, ne_eqb}
use Rattle.laws.specs.Figure.{figure}
use Rattle.laws.proofs.FigureLaws.{castable, one_is}
use Rattle.refusal.specs.declared.Verdict.TheVariants.{Accepted, Refused}
use Rattle.refusal.proofs.VerdictLaws.{range_inside}
use Rattle.clock.specs.declared.SubWindowClock.{SubWindowClock}
use Rattle.clock.specs.declared.SubWindowClock.TheVariants.{CountBased, TimeBased}
use Rattle.clock.specs.Clock.{length_of, passed_of, n_of, fraction_of, tick_of, advance_of, start_of, same_frame}
use Rattle.clock.specs.Workers.{GoodLength, Onward}
use Rattle.clock.specs.Refusals.{length_verdict}
use Rattle.clock.proofs.ClockLaws.{quotient_next, quotient_stays, tick_grows, advance_grows}

-- ---- one clock, of items and of time
stays : (k step : SubWindowClock) → k ≡ step → Onward k step k
stays k step e = record { is = e; length = refl; grows = le_refl (n_of k) }

module _ (k : SubWindowClock) (length seen : ℕ) (is : k ≡ CountBased length seen) where
  pub start_count : CountBased length 0 ≡ start_of k
  start_count = rw is

  -- where the step makes a clock of as many items and more that passed
  counted : (to : ℕ) → CountBased length to ≡ tick_of (CountBased length seen) → seen < 2 ^ 64 → Onward k (tick_of k) (CountBased length to)
  counted to e h = rw is (record { is = e; length = refl; grows = rw e (tick_grows (CountBased length seen) h) })

  pub tick_one : seen < 2 ^ 64 - 1 → Onward k (tick_of k) (CountBased length (seen + 1))
  tick_one h = counted (seen + 1) (ap (CountBased length) (omega arith)) (omega arith)

  pub tick_full : 2 ^ 64 - 1 ≤ seen → seen < 2 ^ 64 → Onward k (tick_of k) (CountBased length (2 ^ 64 - 1))
  tick_full h l = counted (2 ^ 64 - 1) (ap (CountBased length) (omega arith)) l

  -- the sub-window after the tick, from the present one
  module _ (n : ℕ) (en : n ≡ n_of k) where
    present : n ≡ seen / length
    unfolding n_of
    present = en ∙ rw is refl

    before : n * length ≤ seen
    before = rw present (div-mul-le_self seen length)

    pub items_before : n * length ≤ seen + 1
    items_before = omega (arith, before)

    pub items_fit : seen < 2 ^ 64 → n * length < 2 ^ 64
    items_fit h = omega (arith, before)

    pub next_full : seen ≡ 2 ^ 64 - 1 → n ≡ n_of (tick_of k)
    unfolding n_of
    next_full e = rw (is, e) (present ∙ rw e refl)

    module _ (h : seen < 2 ^ 64) (room : seen ≡ 2 ^ 64 - 1 → ⊥) where
      next_is : n_of (tick_of k) ≡ (seen + 1) / length
      unfolding n_of
      next_is = rw is (ap (λ (s : ℕ). s / length) (omega arith))

      pub next_fits : n + 1 < 2 ^ 64
      next_fits = omega (arith, present, div-le_self seen length)

      pub next_begins : seen + 1 - n * length ≡ length → n + 1 ≡ n_of (tick_of k)
      next_begins e = sym (next_is ∙ quotient_next length seen n present e)

      pub next_stays : (seen + 1 - n * length ≡ length → ⊥) → n ≡ n_of (tick_of k)
      next_stays e = sym (next_is ∙ quotient_stays length seen n present e)

module _ (k : SubWindowClock) (length epoch now : ℕ) (is : k ≡ TimeBased length epoch now) where
  pub next_timed : (n : ℕ) → n ≡ n_of k → n ≡ n_of (tick_of k)
  next_timed n en = en ∙ rw is refl

  pub passed_none : now < epoch → 0 ≡ passed_of k
  passed_none h = rw is (omega arith)

  pub passed_some : now - epoch ≡ passed_of k
  passed_some = rw is

  pub start_time : TimeBased length epoch epoch ≡ start_of k
  start_time = rw is

  pub advance_older : (reading : ℕ) → reading < now → Onward k (advance_of k reading) (TimeBased length epoch now)
  advance_older reading h = rw is (stays _ _ (ap (TimeBased length epoch) (omega arith)))

  pub advance_newer : (reading : ℕ) → now ≤ reading → Onward k (advance_of k reading) (TimeBased length epoch reading)
  advance_newer reading h =
      let newer : TimeBased length epoch reading ≡ advance_of (TimeBased length epoch now) reading = ap (TimeBased length epoch) (omega arith) in
      rw is (record { is = newer; length = refl; grows = rw newer (advance_grows (TimeBased length epoch now) reading) })

-- ---- the fraction's operations
module _ (k : SubWindowClock) (good : GoodLength k) (length : ℕ) (is : length ≡ length_of k) where
  pub length_exact : T (in_float binary64 (pos length))
  length_exact = castable length (omega (arith, good.short))

  pub remainder_exact : (since : ℕ) → T (in_float binary64 (pos (since % length)))
  remainder_exact since =
      let below : since % length < length = mod-lt since (omega (arith, good.some)) in
      castable (since % length) (omega (arith, good.short))

  pub fraction_worked : (since : ℕ) → since ≡ passed_of k
      → sub binary64 (of_bits binary64 0x3ff0_0000_0000_0000) (div binary64 (figure (since % length)) (figure length)) ≡ fraction_of k
  unfolding fraction_of
  fraction_worked since e = rw (one_is, e, is) refl

-- ---- two clocks
pub frame_count : (k j : SubWindowClock) (l s l' s' : ℕ) → k ≡ CountBased l s → j ≡ CountBased l' s' → eqb l l' ≡ same_frame k j
frame_count k j l s l' s' p q = rw (p, q) refl

module _ (k j : SubWindowClock) (l e n l' e' n' : ℕ) (p : k ≡ TimeBased l e n) (q : j ≡ TimeBased l' e' n') where
  pub frame_length : (l ≡ l' → ⊥) → eqb l l' ≡ same_frame k j
  frame_length h = rw (p, q) (simp (ne_eqb _ _ h))

  pub frame_epoch : l ≡ l' → eqb e e' ≡ same_frame k j
  frame_epoch h = rw (p, q) (simp (eq-eqb _ _ h))

-- ---- the length, judged
module _ (k : SubWindowClock) (length : ℕ) (is : length ≡ length_of k) where
  pub length_none : length < 1 → Refused 3 ≡ length_verdict k
  length_none h = rw (← is) (simp (lt-ltb length 1 h))

  pub length_long : 2 ^ 53 < length → Refused 3 ≡ length_verdict k
  length_long h = rw (← is) (simp (le-ltb length 1 (omega arith), lt-ltb (2 ^ 53) length h))

  pub length_good : 1 ≤ length → length ≤ 2 ^ 53 → Accepted ≡ length_verdict k
  length_good h l = rw (← is) (simp (range_inside 1 (2 ^ 53) length h l))
