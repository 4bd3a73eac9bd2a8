-- `microscope_merge`. Assumes nothing.
use Rattle.edge.proofs.EdgeLaws.{merge_put}
use borrow.Author.Rules.{rules}
use Rattle.edge.proofs.sketches.microscope_merge.Goals as goal

pub returns : goal.returns
returns c = search (merge_put, rules)
