-- `microscope_load`. Assumes nothing.
use Rattle.edge.proofs.EdgeLaws.{load_put}
use borrow.Author.Rules.{rules}
use Rattle.edge.proofs.stores.microscope_load.Goals as goal

pub returns : goal.returns
returns c = search (load_put, rules)
