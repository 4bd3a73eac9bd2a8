-- `store_calls::write` meets its contract. The header's block, and the blocks behind it, make the store.
use Rattle.store_calls.proofs.SaveWork.{store_written}
use borrow.Author.Rules.{rules}
use Rattle.store_calls.proofs.write.Goals as goal

pub returns : goal.returns
returns c = search (store_written, rules)
