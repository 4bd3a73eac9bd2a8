-- `microscope_new`. Assumes nothing.
use Rattle.edge.proofs.EdgeLaws.{new_put}
use borrow.Author.Rules.{rules}
use Rattle.edge.proofs.sketches.microscope_new.Goals as goal

pub returns : goal.returns
returns c = search (new_put, rules)
