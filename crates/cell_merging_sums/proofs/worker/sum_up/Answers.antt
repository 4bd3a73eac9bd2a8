-- `sum_up`: the pixels' sums, the carry and the raises are the stages of `sums_of`. Assumes nothing.
use Rattle.cell_merging_sums.proofs.SumCases.{sums_are}
use borrow.Author.Rules.{rules}
use Rattle.cell_merging_sums.proofs.worker.sum_up.Goals as goal

pub returns-clause-result_after : goal.returns-clause-result_after
returns-clause-result_after c = search (sums_are, rules)
