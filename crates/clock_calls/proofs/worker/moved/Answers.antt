-- `moved`: each way out is what the verdict of the length, and then of the kind, leaves of `moved_call`.
use borrow.Author.Rules.{rules}
use Rattle.clock_calls.proofs.CallCases.{judged_good, moved_refused, kind_refused, moved_good, moved_done}
use Rattle.clock_calls.proofs.worker.moved.Goals as goal

pub returns-then-not-accepted : goal.returns-then-not-accepted
returns-then-not-accepted c = search (moved_refused, rules)

pub returns-then-wrong : goal.returns-then-wrong
returns-then-wrong c = search (kind_refused, rules)

pub sub_window-old-requires : goal.sub_window-old-requires
sub_window-old-requires c = search (judged_good, moved_good, rules)

pub sub_window-new-requires : goal.sub_window-new-requires
sub_window-new-requires c = search (judged_good, moved_good, rules)

pub returns : goal.returns
returns c = search (moved_done, rules)
