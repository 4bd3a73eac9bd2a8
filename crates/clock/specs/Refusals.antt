-- Document 01, "Turning a call back", for the calls on a clock: 3, then 8. Each call's answer, whole.
use Rattle.std.specs.Prelude.{ℕ, ◌^◌, not}
use Rattle.laws.specs.Figure.{figure}
use Rattle.refusal.specs.declared.Verdict.{Verdict}
use Rattle.refusal.specs.declared.Verdict.TheVariants.{Accepted}
use Rattle.refusal.specs.Refusals.{outside, when_accepted}
use Rattle.refusal.specs.Causes.{Cause, cause, refuse_by}
use Rattle.clock.specs.declared.SubWindowClock.{SubWindowClock}
use Rattle.clock.specs.declared.ClockAnswer.{ClockAnswer}
use Rattle.clock.specs.declared.SubWindowAnswer.{SubWindowAnswer}
use Rattle.clock.specs.declared.FractionAnswer.{FractionAnswer}
use Rattle.clock.specs.declared.MovedAnswer.{MovedAnswer}
use Rattle.clock.specs.Clock.{length_of, n_of, fraction_of, is_count, tick_of, advance_of, crossed_of}

-- THE CAUSES, each with its number
-- 3: a length of 0 or above 2 ^ 53
abbrev pub bad_length : SubWindowClock → Cause
bad_length k = cause 3 (outside 1 (2 ^ 53) (length_of k))

-- 8: an item for a clock of time
abbrev pub is_timed : SubWindowClock → Cause
is_timed k = cause 8 (not (is_count k))

-- 8: a reading for a clock of items
abbrev pub is_counted : SubWindowClock → Cause
is_counted k = cause 8 (is_count k)

abbrev pub refuse_length : SubWindowClock → Verdict → Verdict
refuse_length k rest = refuse_by (bad_length k) rest

abbrev pub length_verdict : SubWindowClock → Verdict
length_verdict k = refuse_length k Accepted

abbrev pub tick_verdict : SubWindowClock → Verdict
tick_verdict k = refuse_length k (refuse_by (is_timed k) Accepted)

abbrev pub advance_verdict : SubWindowClock → Verdict
advance_verdict k = refuse_length k (refuse_by (is_counted k) Accepted)

-- a clock as it is made
abbrev pub made_call : SubWindowClock → ClockAnswer
made_call k = record { verdict = length_verdict k; clock = k }

unfoldable pub n_call : SubWindowClock → SubWindowAnswer
n_call k = record { verdict = length_verdict k; n = when_accepted (length_verdict k) (n_of k) 0 }

unfoldable pub fraction_call : SubWindowClock → FractionAnswer
fraction_call k = record { verdict = length_verdict k; fraction = when_accepted (length_verdict k) (fraction_of k) (figure 0) }

-- a clock moved on, and left as it was where that is refused
abbrev pub moved_call : Verdict → SubWindowClock → SubWindowClock → MovedAnswer
moved_call v before after =
    record { verdict = v; clock = when_accepted v after before; crossed = when_accepted v (crossed_of before after) 0 }

unfoldable pub tick_call : SubWindowClock → MovedAnswer
tick_call k = moved_call (tick_verdict k) k (tick_of k)

unfoldable pub advance_call : SubWindowClock → ℕ → MovedAnswer
advance_call k reading = moved_call (advance_verdict k) k (advance_of k reading)
