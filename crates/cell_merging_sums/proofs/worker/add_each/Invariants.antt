-- `add_each`: up to i the sums, then the pairs that are left. Assumes nothing.
use Rattle.cell_merging_sums.proofs.SumLoops.{Adding}
use Rattle.cell_merging_sums.proofs.worker.add_each.Given as goal

abbrev pub invariant-loop-i : goal.invariant-loop-i
invariant-loop-i l = Adding l.c l.down l.other l.dst l.src l.state l.sums l.after l.draws l.i
