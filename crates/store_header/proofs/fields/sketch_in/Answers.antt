-- `store_header::fields::sketch_in` meets its contract. Each number is the field that the definition reads.
use Rattle.store_header.proofs.FieldWork.{sketch_is}
use borrow.Author.Rules.{rules}
use Rattle.store_header.proofs.fields.sketch_in.Goals as goal

pub returns : goal.returns
returns c = search (sketch_is, rules)
