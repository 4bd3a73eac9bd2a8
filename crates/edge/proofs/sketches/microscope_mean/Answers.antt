-- `microscope_mean`. Assumes nothing.
use Rattle.edge.proofs.EdgeLaws.{mean_told_lem}
use borrow.Author.Rules.{rules}
use Rattle.edge.proofs.sketches.microscope_mean.Goals as goal

pub returns : goal.returns
returns c = search (mean_told_lem, rules)
