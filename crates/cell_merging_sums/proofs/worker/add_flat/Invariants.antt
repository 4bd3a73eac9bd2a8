-- `add_flat`: up to i the sums, then the pixels that are left. Assumes nothing.
use Rattle.cell_merging_sums.proofs.SumLoops.{Flat}
use Rattle.cell_merging_sums.proofs.worker.add_flat.Given as goal

abbrev pub invariant-loop-i : goal.invariant-loop-i
invariant-loop-i l = Flat l.dst l.src l.sums l.i
