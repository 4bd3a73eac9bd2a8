-- `microscope_ask`. Assumes nothing.
use Rattle.edge.proofs.EdgeLaws.{ask_told}
use borrow.Author.Rules.{rules}
use Rattle.edge.proofs.watched.microscope_ask.Goals as goal

pub returns : goal.returns
returns c = search (ask_told, rules)
