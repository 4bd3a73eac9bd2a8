-- `microscope_update`. Assumes nothing.
use Rattle.edge.proofs.EdgeLaws.{update_put}
use borrow.Author.Rules.{rules}
use Rattle.edge.proofs.sketches.microscope_update.Goals as goal

pub returns : goal.returns
returns c = search (update_put, rules)
