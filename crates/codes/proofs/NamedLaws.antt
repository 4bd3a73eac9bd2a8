-- An asking searches the codes' cells behind causes that are not 14. Assumes nothing.
use mathlib.Core.Path.{refl}
use mathlib.Core.List.{[], ◌∷◌, ◌++◌}
use lib.ListN.{length}
use Rattle.refusal.proofs.NamedLaws.{none_is}
use Rattle.sketch.specs.Causes.{sketch_causes}
use Rattle.sketch.proofs.NamedLaws.{cells_judge}
use Rattle.codes.specs.Codes.{watched_cells}
use Rattle.codes.specs.Refusals.{foreign_codes, many_codes, short_list, ask_call}
use Rattle.codes.specs.Named.{CodeCell, CodeNames}
use Rattle.codes.proofs.VerdictLaws.{ask_past}
use Rattle.codes.proofs.WatchedLaws.{codes_searched}
use Rattle.codes.proofs.CauseTheorems.{code_calls}

pub code_names : CodeNames
unfolding none_is ask_call
code_names = record {
  ask = λ k w columns limits g list long.
      let room = length list in
      cells_judge (CodeCell k w columns) k g (watched_cells k columns w.count)
      (sketch_causes k g ++ foreign_codes k w columns ∷ many_codes w.count ∷ short_list w.count room ∷ []) [] refl refl
      (λ past. codes_searched k w columns g room (ask_past k w columns g room past) long) _ _ (code_calls.ask k w columns g room);
}
