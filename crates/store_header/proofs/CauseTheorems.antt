-- Each verdict is that of its list of causes: the cascade is the list, unfolded. Assumes nothing.
use mathlib.Core.Path.{refl}
use Rattle.refusal.specs.Causes.{first_of, numbers_of, place_in, ranked_from}
use Rattle.store_header.specs.Causes.{HeaderCalls}

pub header_calls : HeaderCalls
unfolding first_of numbers_of place_in ranked_from
header_calls = record { length = λ k. record { is = refl; numbered = refl; ordered = refl }; header = λ p. refl }
