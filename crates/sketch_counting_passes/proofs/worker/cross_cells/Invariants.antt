-- `cross_cells`: a pass over equal pieces in place, from the front. Assumes nothing.
use Rattle.sketch_counting_passes.proofs.CrossingPass.{Crossing}
use Prim.Native.Nat.{◌*◌}
use Rattle.sketch_counting_passes.proofs.worker.cross_cells.Given as goal

abbrev pub invariant-loop-index : goal.invariant-loop-index
invariant-loop-index l =
    Crossing l.t l.c l.count l.n l.crossed l.initial.grid l.state l.grid l.after l.draws l.lost (l.index * l.depth) l.index
