-- `passed`: a difference that would be negative is 0, as it is between whole numbers.
use borrow.Author.Rules.{rules}
use Rattle.clock_steps.proofs.StepCases.{passed_none, passed_some}
use Rattle.clock_steps.proofs.worker.passed.Goals as goal

pub returns-then-now-epoch : goal.returns-then-now-epoch
returns-then-now-epoch c = search (passed_none, rules)

pub returns-else-now-epoch : goal.returns-else-now-epoch
returns-else-now-epoch c = search (passed_some, rules)
