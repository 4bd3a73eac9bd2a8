-- `microscope_cell_merge`. Assumes nothing.
use Rattle.edge.proofs.EdgeLaws.{merge_cell_put}
use borrow.Author.Rules.{rules}
use Rattle.edge.proofs.cells.microscope_cell_merge.Goals as goal

pub returns : goal.returns
returns c = search (merge_cell_put, rules)
