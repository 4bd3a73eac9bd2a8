-- `microscope_cell_shutter`. Assumes nothing.
use Rattle.edge.proofs.EdgeLaws.{shutter_told_lem}
use borrow.Author.Rules.{rules}
use Rattle.edge.proofs.cells.microscope_cell_shutter.Goals as goal

pub returns : goal.returns
returns c = search (shutter_told_lem, rules)
