-- `divide_each`: up to here the quotients, from here on the sums as they were. Assumes nothing.
use Rattle.cell_merging_sums.proofs.SumLoops.{Halving}
use Rattle.cell_merging_sums.proofs.worker.divide_each.Given as goal

abbrev pub invariant-loop-sum : goal.invariant-loop-sum
invariant-loop-sum l = Halving l.c l.initial.sums l.state l.sums l.after l.draws l.sum-index
