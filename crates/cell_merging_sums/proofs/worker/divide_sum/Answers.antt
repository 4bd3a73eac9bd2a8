-- `divide_sum`: the quotient of four bytes, and one more, fits them. Assumes nothing.
use Rattle.cell_merging_sums.proofs.SumLoops.{quotient_fits}
use borrow.Author.Rules.{rules}
use Rattle.cell_merging_sums.proofs.worker.divide_sum.Goals as goal

pub returns-clause-value_bound : goal.returns-clause-value_bound
returns-clause-value_bound c = search (quotient_fits, rules)
