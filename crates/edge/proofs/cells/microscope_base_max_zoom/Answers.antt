-- `microscope_base_max_zoom`. Assumes nothing.
use Rattle.edge.proofs.EdgeLaws.{base_told_lem}
use borrow.Author.Rules.{rules}
use Rattle.edge.proofs.cells.microscope_base_max_zoom.Goals as goal

pub returns : goal.returns
returns c = search (base_told_lem, rules)
