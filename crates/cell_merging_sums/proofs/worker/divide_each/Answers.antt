use Rattle.cell_merging_sums.proofs.SumLoops.{halving_fits, halving_on, halving_end}
use borrow.Author.Rules.{rules}
use Rattle.cell_merging_sums.proofs.worker.divide_each.Goals as goal

pub overflow_add-draws : goal.overflow_add-draws
overflow_add-draws c = record { fits = search (halving_fits, rules) }

pub loop-sum-preserved : goal.loop-sum-preserved
loop-sum-preserved c = search (halving_on, rules)

pub returns : goal.returns
returns c = search (halving_end, rules)
