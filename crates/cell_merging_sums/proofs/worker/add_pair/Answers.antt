-- `add_pair`: two bytes scaled down are bytes, so their sum is at most 510. Assumes nothing.
use Rattle.cell_merging_sums.proofs.SumLoops.{pair_is, pair_low, pair_fits, pair_few}
use borrow.Author.Rules.{rules}
use Rattle.cell_merging_sums.proofs.worker.add_pair.Goals as goal

pub overflow_add-result : goal.overflow_add-result
overflow_add-result c = record { fits = search (pair_fits, rules) }

pub overflow_add-result-2 : goal.overflow_add-result-2
overflow_add-result-2 c = record { fits = search (pair_few, rules) }

pub returns-clause-value : goal.returns-clause-value
returns-clause-value c = search (pair_is, rules)

pub returns-clause-value_bound : goal.returns-clause-value_bound
returns-clause-value_bound c = search (pair_low, rules)
