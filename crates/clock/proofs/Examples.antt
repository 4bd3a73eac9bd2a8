-- Clocks of a length that is refused, and what each call on them answers, computed from the definitions by the checker. Assumes nothing.
-- No sketch has such a clock, so the bench tool cannot show them beside the good ones (tests/clocks.txt).
use Prim.Native.Nat.{ℕ, ◌+◌, ◌-◌, ◌^◌}
use mathlib.Core.Path.{◌≡◌, refl}
use lib.Ieee.{binary64, of_int, to_bits}
use Rattle.laws.specs.Figure.{figure}
use Rattle.refusal.specs.declared.Verdict.TheVariants.{Refused}
use Rattle.clock.specs.declared.SubWindowClock.{SubWindowClock}
use Rattle.clock.specs.declared.SubWindowClock.TheVariants.{CountBased, TimeBased}
use Rattle.clock.specs.Refusals.{made_call, n_call, fraction_call, tick_call, advance_call}

-- 3 from each call; n and the fraction are 0, nothing is begun, and the clock is as it was
record Refuses (k : SubWindowClock) (reading : ℕ) : Type 0 where
  n : n_call k ≡ record { verdict = Refused 3; n = 0 }
  fraction : fraction_call k ≡ record { verdict = Refused 3; fraction = figure 0 }
  bits : to_bits binary64 (fraction_call k).fraction ≡ 0
  tick : tick_call k ≡ record { verdict = Refused 3; clock = k; crossed = 0 }
  advance : advance_call k reading ≡ record { verdict = Refused 3; clock = k; crossed = 0 }

-- 3, and the clock handed back as it came
abbrev Unmade : SubWindowClock → Type 0
Unmade k = made_call k ≡ record { verdict = Refused 3; clock = k }

pub record Lengths : Type 0 where
  no_items : Refuses (CountBased 0 7) 5
  items_too_long : Refuses (CountBased (2 ^ 53 + 1) 7) 5
  no_time : Refuses (TimeBased 0 1000 1013) 1014
  time_too_long : Refuses (TimeBased (2 ^ 53 + 1) 1000 1013) 1014
  no_items_unmade : Unmade (CountBased 0 0)
  items_too_long_unmade : Unmade (CountBased (2 ^ 53 + 1) 0)
  no_time_unmade : Unmade (TimeBased 0 1000 1000)
  time_too_long_unmade : Unmade (TimeBased (2 ^ 53 + 1) (2 ^ 64 - 1) (2 ^ 64 - 1))

pub lengths : Lengths
unfolding n_call fraction_call tick_call advance_call to_bits of_int
lengths = record {
  no_items = record { n = refl; fraction = refl; bits = refl; tick = refl; advance = refl };
  items_too_long = record { n = refl; fraction = refl; bits = refl; tick = refl; advance = refl };
  no_time = record { n = refl; fraction = refl; bits = refl; tick = refl; advance = refl };
  time_too_long = record { n = refl; fraction = refl; bits = refl; tick = refl; advance = refl };
  no_items_unmade = refl;
  items_too_long_unmade = refl;
  no_time_unmade = refl;
  time_too_long_unmade = refl;
}
