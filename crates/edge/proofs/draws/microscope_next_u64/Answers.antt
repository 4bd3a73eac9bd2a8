-- `microscope_next_u64`. Assumes nothing.
use Rattle.edge.proofs.EdgeLaws.{draw_told}
use borrow.Author.Rules.{rules}
use Rattle.edge.proofs.draws.microscope_next_u64.Goals as goal

pub returns : goal.returns
returns c = search (draw_told, rules)
