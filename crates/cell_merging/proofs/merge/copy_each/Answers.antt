use Rattle.cell_merging.proofs.MergeLoops.{copying_on, copy_fits}
use borrow.Author.Rules.{rules}
use Rattle.cell_merging.proofs.merge.copy_each.Goals as goal

pub overflow_cast-pixel : goal.overflow_cast-pixel
overflow_cast-pixel c = record { fits = search (copy_fits, rules) }

pub loop-i-preserved : goal.loop-i-preserved
loop-i-preserved c = search (copying_on, rules)
