-- Each call's verdict is that of its list of causes: a cascade is its list, unfolded, and 14 is one cause however many cells are judged. Assumes nothing.
use mathlib.Core.Path.{refl}
use Rattle.refusal.specs.declared.Verdict.TheVariants.{Accepted}
use Rattle.refusal.specs.Causes.{first_of, numbers_of, place_in, ranked_from}
use Rattle.sketch.proofs.CauseTheorems.{one_cause}
use Rattle.codes.specs.Codes.{watched_cells}
use Rattle.codes.specs.Causes.{CodeCalls}

pub code_calls : CodeCalls
unfolding first_of numbers_of place_in ranked_from
code_calls = record {
  set = λ k columns count. record { is = refl; numbered = refl; ordered = refl };
  ask = λ k w columns g room. record { is = rw (one_cause k g (watched_cells k columns w.count) Accepted) refl; numbered = refl; ordered = refl };
}
