-- Each call's verdict is that of its list of causes: the cascade is the list, unfolded. Assumes nothing.
use mathlib.Core.Path.{refl}
use Rattle.refusal.specs.Causes.{first_of, numbers_of, place_in, ranked_from}
use Rattle.clock.specs.Causes.{ClockCalls}
use Rattle.clock.specs.Limits.{Limits}

pub clock_calls : ClockCalls
unfolding first_of numbers_of place_in ranked_from
clock_calls = record {
  made = λ k. record { is = refl; numbered = refl; ordered = refl };
  tick = λ k. record { is = refl; numbered = refl; ordered = refl };
  advance = λ k. record { is = refl; numbered = refl; ordered = refl };
}

pub limits : Limits
limits = record { least = (refl, refl); most = (refl, refl); none = (refl, refl); too_long = (refl, refl) }
