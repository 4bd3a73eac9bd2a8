-- `microscope_bucket_check`. Assumes nothing.
use Rattle.edge.proofs.EdgeLaws.{bucket_told}
use borrow.Author.Rules.{rules}
use Rattle.edge.proofs.sketches.microscope_bucket_check.Goals as goal

pub returns : goal.returns
returns c = search (bucket_told, rules)
