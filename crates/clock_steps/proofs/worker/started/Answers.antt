-- `started`: each variant is a case of `start_of`.
use borrow.Author.Rules.{rules}
use Rattle.clock_steps.proofs.StepCases.{start_count, start_time}
use Rattle.clock_steps.proofs.worker.started.Goals as goal

pub returns-in-CountBased : goal.returns-in-CountBased
returns-in-CountBased c = search (start_count, rules)

pub returns-in-TimeBased : goal.returns-in-TimeBased
returns-in-TimeBased c = search (start_time, rules)
