-- `microscope_cell_check`. Assumes nothing.
use Rattle.edge.proofs.EdgeLaws.{check_told}
use borrow.Author.Rules.{rules}
use Rattle.edge.proofs.cells.microscope_cell_check.Goals as goal

pub returns : goal.returns
returns c = search (check_told, rules)
