-- `microscope_cell_insert`. Assumes nothing.
use Rattle.edge.proofs.EdgeLaws.{insert_put}
use borrow.Author.Rules.{rules}
use Rattle.edge.proofs.cells.microscope_cell_insert.Goals as goal

pub returns : goal.returns
returns c = search (insert_put, rules)
