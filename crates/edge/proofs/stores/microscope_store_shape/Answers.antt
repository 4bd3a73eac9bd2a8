-- `microscope_store_shape`. Assumes nothing.
use Rattle.edge.proofs.EdgeLaws.{shape_told_lem}
use borrow.Author.Rules.{rules}
use Rattle.edge.proofs.stores.microscope_store_shape.Goals as goal

pub returns : goal.returns
returns c = search (shape_told_lem, rules)
