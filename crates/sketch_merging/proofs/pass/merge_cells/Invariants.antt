-- `merge_cells`: a pass over equal pieces in place, from the front, beside the pieces of the other grid. Assumes nothing.
use mathlib.Core.Path.{◌≡◌}
use lib.ListN.{length}
use Rattle.laws.proofs.PassLaws.{Going}
use Rattle.cell.specs.Cell.{depth_of}
use Rattle.sketch_merging.specs.Workers.{merge_piece}
use Rattle.sketch_merging.proofs.pass.merge_cells.Given as goal

abbrev pub invariant-loop : goal.invariant-loop
invariant-loop l =
    Going (merge_piece l.t l.c l.n l.other) (depth_of l.t) 127038 4294967295 l.count l.initial.grid l.state l.grid l.after l.draws l.lost l.start l.counter × (length l.work ≡ 4098)
