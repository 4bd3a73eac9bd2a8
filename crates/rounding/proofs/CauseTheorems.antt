-- Each call's verdict is that of its list of causes: the cascade is the list, unfolded. Assumes nothing.
use mathlib.Core.Path.{refl}
use Rattle.refusal.specs.Causes.{first_of, numbers_of, place_in, ranked_from}
use Rattle.rounding.specs.Causes.{DrawCalls}

pub draw_calls : DrawCalls
unfolding first_of numbers_of place_in ranked_from
draw_calls = record {
  draw = λ σ. record { is = refl; numbered = refl; ordered = refl };
  division = λ d σ. record { is = refl; numbered = refl; ordered = refl };
}
