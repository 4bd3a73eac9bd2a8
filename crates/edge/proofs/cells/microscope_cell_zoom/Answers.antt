-- `microscope_cell_zoom`. Assumes nothing.
use Rattle.edge.proofs.EdgeLaws.{zoom_told_lem}
use borrow.Author.Rules.{rules}
use Rattle.edge.proofs.cells.microscope_cell_zoom.Goals as goal

pub returns : goal.returns
returns c = search (zoom_told_lem, rules)
