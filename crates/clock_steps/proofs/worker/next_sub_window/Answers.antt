-- `next_sub_window`: an item that fills its sub-window begins the next one, and any other stays in its own.
use Rattle.clock_steps.proofs.StepCases.{items_before, items_fit, next_full, next_fits, next_begins, next_stays, next_timed}
use borrow.Author.Rules.{rules}
use Rattle.clock_steps.proofs.worker.next_sub_window.Goals as goal

pub returns-then-seen : goal.returns-then-seen
returns-then-seen c = search (next_full, rules)

pub overflow_mul-n : goal.overflow_mul-n
overflow_mul-n c = record { fits = search (items_fit, rules) }

pub overflow_sub-seen : goal.overflow_sub-seen
overflow_sub-seen c = search (items_before, rules)

pub overflow_add-result : goal.overflow_add-result
overflow_add-result c = record { fits = search (next_fits, rules) }

pub returns-then-seen-n : goal.returns-then-seen-n
returns-then-seen-n c = search (next_begins, rules)

pub returns-else-seen-n : goal.returns-else-seen-n
returns-else-seen-n c = search (next_stays, rules)

pub returns-in-TimeBased : goal.returns-in-TimeBased
returns-in-TimeBased c = search (next_timed, rules)
