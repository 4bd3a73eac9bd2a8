-- `enter_from`: nothing for 0 sub-windows, else the stages and the zooming in. Assumes nothing.
use Rattle.cell_crossing_steps.proofs.CrossingCases.{cross_none, cross_done}
use borrow.Author.Rules.{rules}
use Rattle.cell_crossing_steps.proofs.worker.enter_from.Goals as goal

pub returns-then-crossed-eq0-clause-result_after : goal.returns-then-crossed-eq0-clause-result_after
returns-then-crossed-eq0-clause-result_after c = rw c.still.ensures (search (cross_none, rules))

pub returns-clause-result_after : goal.returns-clause-result_after
returns-clause-result_after c = search (cross_done, rules)
