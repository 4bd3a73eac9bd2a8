-- `sum_back`: the sum over the sub-windows so far, none of which passes what a cell can say. Assumes nothing.
use Rattle.sketch_reading_figures.proofs.FigureLoops.{Summing}
use Rattle.sketch_reading_figures.proofs.worker.sum_back.Given as goal

abbrev pub invariant-loop-back : goal.invariant-loop-back
invariant-loop-back l = Summing l.sketch l.grid l.key l.back-end l.back l.sum
