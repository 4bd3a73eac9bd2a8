-- `blocks::block::passes` meets its contract. The two tests are those of the definition, in its order.
use Rattle.store_blocks.proofs.BlockWork.{number_differs, number_same}
use borrow.Author.Rules.{rules}
use Rattle.store_blocks.proofs.block.passes.Goals as goal

pub returns-then-number : goal.returns-then-number
returns-then-number c = search (number_same, rules)

pub returns-else-number : goal.returns-else-number
returns-else-number c = search (number_differs, rules)
