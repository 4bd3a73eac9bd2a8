-- `microscope_max_zoom`. Assumes nothing.
use Rattle.edge.proofs.EdgeLaws.{highest_told_lem}
use borrow.Author.Rules.{rules}
use Rattle.edge.proofs.sketches.microscope_max_zoom.Goals as goal

pub returns : goal.returns
returns c = search (highest_told_lem, rules)
