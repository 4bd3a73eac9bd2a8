-- `ticked`: one more is the smaller of the two that `tick_of` compares where the test finds room for it, and 2 ^ 64 − 1 elsewhere.
use borrow.Author.Rules.{rules}
use Rattle.clock_steps.proofs.StepCases.{tick_one, tick_full}
use Rattle.clock_steps.proofs.worker.ticked.Goals as goal

pub returns-then-seen-lt18446744073709551615 : goal.returns-then-seen-lt18446744073709551615
returns-then-seen-lt18446744073709551615 c = search (tick_one, rules)

pub returns-else-seen-lt18446744073709551615 : goal.returns-else-seen-lt18446744073709551615
returns-else-seen-lt18446744073709551615 c = search (tick_full, rules)
