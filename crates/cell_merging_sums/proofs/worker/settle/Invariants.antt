-- `settle`: each turn is one raise of `settle_from`; at max_zoom, and only there, the sums are cut. Assumes nothing.
use Rattle.cell_merging_sums.proofs.SumCases.{Settling}
use Rattle.cell_merging_sums.proofs.worker.settle.Given as goal

abbrev pub invariant-loop-target : goal.invariant-loop-target
invariant-loop-target l = Settling l.c l.zoom l.initial.sums l.state l.sums l.after l.draws l.target
