-- `microscope_estimate`. Assumes nothing.
use Rattle.edge.proofs.EdgeLaws.{read_told}
use borrow.Author.Rules.{rules}
use Rattle.edge.proofs.sketches.microscope_estimate.Goals as goal

pub returns : goal.returns
returns c = search (read_told, rules)
