-- `residual_fraction`: a refused length gives 0.0, and a judged one lets the worker divide.
use borrow.Author.Rules.{rules}
use Rattle.clock_calls.proofs.CallCases.{judged_good, fraction_refused, fraction_done}
use Rattle.clock_calls.proofs.residual_fraction.Goals as goal

pub returns-then-not-accepted : goal.returns-then-not-accepted
returns-then-not-accepted c = search (fraction_refused, rules)

pub fraction-requires : goal.fraction-requires
fraction-requires c = search (judged_good, rules)

pub returns : goal.returns
returns c = search (fraction_done, rules)
