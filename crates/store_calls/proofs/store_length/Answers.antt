-- `store_calls::store_length` meets its contract. The length is that of the grid that judged settings have.
use Rattle.store_calls.proofs.SaveWork.{length_refused, length_told}
use borrow.Author.Rules.{rules}
use Rattle.store_calls.proofs.store_length.Goals as goal

pub returns-then-not-accepted : goal.returns-then-not-accepted
returns-then-not-accepted c = search (length_refused, rules)

pub returns : goal.returns
returns c = search (length_told, rules)
