-- `microscope_advance_to`. Assumes nothing.
use Rattle.edge.proofs.EdgeLaws.{advance_put}
use borrow.Author.Rules.{rules}
use Rattle.edge.proofs.sketches.microscope_advance_to.Goals as goal

pub returns : goal.returns
returns c = search (advance_put, rules)
