-- `enter_unzoomed`: a far jump, or the closing and the clearing. Assumes nothing.
use Rattle.cell_crossing_steps.proofs.CrossingCases.{inside_far, inside_near}
use borrow.Author.Rules.{rules}
use Rattle.cell_crossing_steps.proofs.worker.enter_unzoomed.Goals as goal

pub returns-then-crossed-pixels-clause-result_after : goal.returns-then-crossed-pixels-clause-result_after
returns-then-crossed-pixels-clause-result_after c = search (inside_far, rules)

pub returns-clause-result_after : goal.returns-clause-result_after
returns-clause-result_after c = search (inside_near, rules)
