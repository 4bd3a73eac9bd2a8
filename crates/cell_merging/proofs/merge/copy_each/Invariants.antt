-- `copy_each`: up to i the sums, from i on what stood there. Assumes nothing.
use Rattle.cell_merging.proofs.MergeLoops.{Copying}
use Rattle.cell_merging.proofs.merge.copy_each.Given as goal

abbrev pub invariant-loop-i : goal.invariant-loop-i
invariant-loop-i l = Copying l.sums l.initial.pixels l.pixels l.i
