-- `advanced`: the later of the two readings is the one that the test picks.
use borrow.Author.Rules.{rules}
use Rattle.clock_steps.proofs.StepCases.{advance_newer, advance_older}
use Rattle.clock_steps.proofs.worker.advanced.Goals as goal

pub returns-then-reading-now : goal.returns-then-reading-now
returns-then-reading-now c = search (advance_older, rules)

pub returns-else-reading-now : goal.returns-else-reading-now
returns-else-reading-now c = search (advance_newer, rules)
