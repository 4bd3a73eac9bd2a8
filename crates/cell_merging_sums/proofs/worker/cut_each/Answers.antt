use Rattle.cell_merging_sums.proofs.SumLoops.{cutting_fits, cutting_on, cutting_end, cutting_off}
use borrow.Author.Rules.{rules}
use Rattle.cell_merging_sums.proofs.worker.cut_each.Goals as goal

pub overflow_add-lost : goal.overflow_add-lost
overflow_add-lost c = record { fits = search (cutting_fits, rules) }

pub loop-sum-preserved : goal.loop-sum-preserved
loop-sum-preserved c = search (cutting_on, rules)

pub returns : goal.returns
returns c = (search (cutting_end, rules), search (cutting_off, rules))
