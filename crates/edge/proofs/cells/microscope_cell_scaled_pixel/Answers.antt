-- `microscope_cell_scaled_pixel`. Assumes nothing.
use Rattle.edge.proofs.EdgeLaws.{pixel_told_lem}
use borrow.Author.Rules.{rules}
use Rattle.edge.proofs.cells.microscope_cell_scaled_pixel.Goals as goal

pub returns : goal.returns
returns c = search (pixel_told_lem, rules)
