-- `microscope_save`. Assumes nothing.
use Rattle.edge.proofs.EdgeLaws.{save_told}
use borrow.Author.Rules.{rules}
use Rattle.edge.proofs.stores.microscope_save.Goals as goal

pub returns : goal.returns
returns c = search (save_told, rules)
