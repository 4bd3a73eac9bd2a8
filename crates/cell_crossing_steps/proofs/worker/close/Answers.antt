-- `close`: there is nothing to round, or the rounded shutter is 0, and nothing is credited, or it is not. Assumes nothing.
use Rattle.cell_crossing_steps.proofs.CrossingCases.{unit_positive, close_empty, close_none, close_credit, division_few, credited_few, credited_fits}
use borrow.Author.Rules.{rules}
use Rattle.cell_crossing_steps.proofs.worker.close.Goals as goal

pub returns-then-shutter-eq0-clause-result_after : goal.returns-then-shutter-eq0-clause-result_after
returns-then-shutter-eq0-clause-result_after c = search (close_empty, rules)

pub divide-rounded-requires : goal.divide-rounded-requires
divide-rounded-requires c = search (unit_positive, rules)

pub returns-then-rounded-eq0-clause-result_after : goal.returns-then-rounded-eq0-clause-result_after
returns-then-rounded-eq0-clause-result_after c = search (close_none, rules)

pub returns-then-rounded-eq0-clause-draws_bound : goal.returns-then-rounded-eq0-clause-draws_bound
returns-then-rounded-eq0-clause-draws_bound c = search (division_few, rules)

pub overflow_add-result : goal.overflow_add-result
overflow_add-result c = record { fits = search (credited_fits, rules) }

pub returns-clause-result_after : goal.returns-clause-result_after
returns-clause-result_after c =
    let rounded = rw c.from.ensures at c.divide-rounded.ensures in
    search (close_credit, rules)

pub returns-clause-draws_bound : goal.returns-clause-draws_bound
returns-clause-draws_bound c = search (credited_few, rules)
