-- What an accepted clock has, and that the fraction of a call is one of 0 to 1.
use Prim.Native.Nat.{◌^◌}
use mathlib.Core.Path.{◌≡◌, refl, sym}
use mathlib.Core.Bool.{true, not}
use lib.Dec.{T}
use lib.Ieee.{is_nan}
use Rattle.laws.specs.Figure.{figure}
use Rattle.laws.specs.Unit.{in_unit}
use Rattle.laws.proofs.UnitLaws.{zero_unit, unit_number}
use Rattle.refusal.specs.declared.Verdict.{Verdict}
use Rattle.refusal.specs.declared.Verdict.TheVariants.{Accepted, Refused, Unsound}
use Rattle.refusal.specs.Refusals.{outside, when_accepted}
use Rattle.refusal.proofs.VerdictLaws.{not_refused, inside_range}
use Rattle.clock.specs.declared.SubWindowClock.{SubWindowClock}
use Rattle.clock.specs.declared.FractionAnswer.{FractionAnswer}
use Rattle.clock.specs.Clock.{length_of, fraction_of}
use Rattle.clock.specs.Workers.{GoodLength}
use Rattle.clock.specs.Refusals.{length_verdict, fraction_call}
use Rattle.clock.proofs.ClockLaws.{fraction_in_unit}

pub good_length : (k : SubWindowClock) → length_verdict k ≡ Accepted → GoodLength k
good_length k e =
    let inside = inside_range 1 (2 ^ 53) (length_of k) (not_refused 3 (outside 1 (2 ^ 53) (length_of k)) Accepted e).0 in
    record { some = inside.0; short = inside.1 }

-- the fraction that a call gives is one of 0 to 1 whatever clock is handed in, and so no NaN
pub fraction_call_unit : (k : SubWindowClock) → in_unit (fraction_call k).fraction ≡ true
unfolding fraction_call
fraction_call_unit k = go (length_verdict k) refl
  where
    go : (v : Verdict) → v ≡ length_verdict k → in_unit (when_accepted v (fraction_of k) (figure 0)) ≡ true
    go Accepted e = fraction_in_unit k (good_length k (sym e))
    go (Refused number) e = zero_unit
    go (Unsound index) e = zero_unit

pub fraction_call_number : (k : SubWindowClock) (r : FractionAnswer) → r ≡ fraction_call k → T (not (is_nan r.fraction))
fraction_call_number k r e = rw e (unit_number (fraction_call k).fraction (fraction_call_unit k))
