-- `divide`: by 2 and by any other, the same division. Assumes nothing.
use Rattle.rounding.proofs.DivisionLaws.{halved}
use borrow.Author.Rules.{rules}
use Rattle.rounding.proofs.worker.divide.Goals as goal

pub returns-then-divisor-eq2 : goal.returns-then-divisor-eq2
returns-then-divisor-eq2 c = search (halved, rules)
