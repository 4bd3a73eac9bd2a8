-- `microscope_unbiased_div_u64`. Assumes nothing.
use Rattle.edge.proofs.EdgeLaws.{division_told}
use borrow.Author.Rules.{rules}
use Rattle.edge.proofs.draws.microscope_unbiased_div_u64.Goals as goal

pub returns : goal.returns
returns c = search (division_told, rules)
