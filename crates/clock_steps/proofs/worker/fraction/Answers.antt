-- `fraction`: the length and the remainder below it are held exactly, and the operations are those of `fraction_of`, in its order.
use borrow.Author.Rules.{rules}
use Rattle.clock_steps.proofs.StepCases.{length_exact, remainder_exact, fraction_worked}
use Rattle.clock_steps.proofs.worker.fraction.Goals as goal

pub int_to_float-result : goal.int_to_float-result
int_to_float-result c = search (remainder_exact, rules)

pub int_to_float-result-2 : goal.int_to_float-result-2
int_to_float-result-2 c = search (length_exact, rules)

pub returns : goal.returns
returns c = search (fraction_worked, rules)
