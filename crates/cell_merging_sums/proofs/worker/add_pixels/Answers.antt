-- `add_pixels`: the fronts of both cells are their pixels, and each lacks the levels up to the target. Assumes nothing.
use Rattle.cell_merging_sums.proofs.SumCases.{added_flat}
use borrow.Author.Rules.{rules}
use Rattle.cell_merging_sums.proofs.worker.add_pixels.Goals as goal

pub returns-then-other-eq0-clause-result_after : goal.returns-then-other-eq0-clause-result_after
returns-then-other-eq0-clause-result_after c = search (added_flat, rules)
