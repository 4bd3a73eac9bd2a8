-- `microscope_set_codes`. Assumes nothing.
use Rattle.edge.proofs.EdgeLaws.{set_told}
use borrow.Author.Rules.{rules}
use Rattle.edge.proofs.watched.microscope_set_codes.Goals as goal

pub returns : goal.returns
returns c = search (set_told, rules)
