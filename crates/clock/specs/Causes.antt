-- Document 01, "Turning a call back", call by call: the causes of each call on a clock, in the order in which they are told.
use Rattle.std.specs.Prelude.{List, [], ◌∷◌}
use Rattle.refusal.specs.Causes.{Cause, Told}
use Rattle.clock.specs.declared.SubWindowClock.{SubWindowClock}
use Rattle.clock.specs.Refusals.{bad_length, is_timed, is_counted, length_verdict, tick_verdict, advance_verdict}

-- A CLOCK AS IT IS MADE, its n and its fraction: 3
abbrev pub length_causes : SubWindowClock → List Cause
length_causes k = bad_length k ∷ []

-- AN ITEM PASSES: 3, 8
abbrev pub tick_causes : SubWindowClock → List Cause
tick_causes k = bad_length k ∷ is_timed k ∷ []

-- TIME PASSES: 3, 8
abbrev pub advance_causes : SubWindowClock → List Cause
advance_causes k = bad_length k ∷ is_counted k ∷ []

-- EACH is refused by the first of its causes that holds, and they stand in the table's order
pub record ClockCalls : Type 0 where
  pub made : (k : SubWindowClock) → Told (length_verdict k) (3 ∷ []) (length_causes k)
  pub tick : (k : SubWindowClock) → Told (tick_verdict k) (3 ∷ 8 ∷ []) (tick_causes k)
  pub advance : (k : SubWindowClock) → Told (advance_verdict k) (3 ∷ 8 ∷ []) (advance_causes k)
