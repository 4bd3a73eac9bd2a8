-- `power::unit`: a power of 2 that fits four bytes is a shift within them. Assumes nothing.
use Rattle.cell.proofs.PowerLaws.{shift_short}
use borrow.Author.Rules.{rules}
use Rattle.cell_judging.proofs.power.unit.Goals as goal

pub overflow_shl-result : goal.overflow_shl-result
overflow_shl-result c = search (shift_short, rules)
