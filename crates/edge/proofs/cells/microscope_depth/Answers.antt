-- `microscope_depth`. Assumes nothing.
use Rattle.edge.proofs.EdgeLaws.{depth_told_lem}
use borrow.Author.Rules.{rules}
use Rattle.edge.proofs.cells.microscope_depth.Goals as goal

pub returns : goal.returns
returns c = search (depth_told_lem, rules)
