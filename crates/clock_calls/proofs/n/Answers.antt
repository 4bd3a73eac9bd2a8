-- `n`: a refused length gives 0, and a judged one lets the worker divide.
use borrow.Author.Rules.{rules}
use Rattle.clock_calls.proofs.CallCases.{judged_good, n_refused, n_done}
use Rattle.clock_calls.proofs.n.Goals as goal

pub returns-then-not-accepted : goal.returns-then-not-accepted
returns-then-not-accepted c = search (n_refused, rules)

pub sub_window-requires : goal.sub_window-requires
sub_window-requires c = search (judged_good, rules)

pub returns : goal.returns
returns c = search (n_done, rules)
