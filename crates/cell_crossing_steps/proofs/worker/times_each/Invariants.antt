-- `times_each`: up to the index the products, from it on the pixels as they were, each at most the ceiling. Assumes nothing.
use Rattle.cell_crossing_steps.proofs.CrossingLoops.{Timing}
use Rattle.cell_crossing_steps.proofs.worker.times_each.Given as goal

abbrev pub invariant-loop-pixel : goal.invariant-loop-pixel
invariant-loop-pixel l = Timing l.c l.initial.pixels l.pixels l.pixel-index
