-- `zoom_in`: each turn is one clause of `zoom_in_from`, down from the cell's zoom. Assumes nothing.
use Rattle.cell_crossing_steps.proofs.CrossingCases.{Zooming}
use Rattle.cell_crossing_steps.proofs.worker.zoom_in.Given as goal

abbrev pub invariant-loop-zoom : goal.invariant-loop-zoom
invariant-loop-zoom l = Zooming l.t l.c l.initial.cell l.cell l.zoom
