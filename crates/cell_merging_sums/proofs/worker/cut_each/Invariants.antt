-- `cut_each`: up to here the sums cut, from here on the sums as they were; what was cut off so far, and what is to come, make the whole. Assumes nothing.
use Rattle.cell_merging_sums.proofs.SumLoops.{Cutting}
use Rattle.cell_merging_sums.proofs.worker.cut_each.Given as goal

abbrev pub invariant-loop-sum : goal.invariant-loop-sum
invariant-loop-sum l = Cutting l.initial.sums l.sums l.lost l.sum-index
