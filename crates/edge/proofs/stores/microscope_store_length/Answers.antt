-- `microscope_store_length`. Assumes nothing.
use Rattle.edge.proofs.EdgeLaws.{length_told}
use borrow.Author.Rules.{rules}
use Rattle.edge.proofs.stores.microscope_store_length.Goals as goal

pub returns : goal.returns
returns c = search (length_told, rules)
