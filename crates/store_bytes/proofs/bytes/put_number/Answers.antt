-- `store_bytes::bytes::put_number` meets its contract. Eight bytes hold the whole number, so they are cut off or zero-filled.
use Rattle.store_bytes.proofs.NumberLaws.{number_put}
use borrow.Author.Rules.{rules}
use Rattle.store_bytes.proofs.bytes.put_number.Goals as goal

pub returns : goal.returns
returns c = search (number_put, rules)
