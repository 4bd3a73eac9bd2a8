-- `add_carry`: a sum of at most 510 has room for the carry, and is 511 at the most with it. Assumes nothing.
use Rattle.cell_merging_sums.proofs.SumCases.{carry_fits, carry_most}
use borrow.Author.Rules.{rules}
use Rattle.cell_merging_sums.proofs.worker.add_carry.Goals as goal

pub overflow_add-sums : goal.overflow_add-sums
overflow_add-sums c = record { fits = search (carry_fits, rules) }

pub returns : goal.returns
returns c = (search rules, search (carry_most, rules))
