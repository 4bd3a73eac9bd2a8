-- `microscope_estimate_with`. Assumes nothing.
use Rattle.edge.proofs.EdgeLaws.{read_with_told}
use borrow.Author.Rules.{rules}
use Rattle.edge.proofs.sketches.microscope_estimate_with.Goals as goal

pub returns : goal.returns
returns c = search (read_with_told, rules)
