-- `in_unit`: the two tests are the definition's, in its order. Assumes nothing.
use Rattle.laws.proofs.FigureLaws.{zero_is, one_is}
use Rattle.sketch_reading.proofs.judge.in_unit.Goals as goal

pub returns-then-x : goal.returns-then-x
returns-then-x c = rw (← zero_is, ← one_is, c.if-x.true)

pub returns-else-x : goal.returns-else-x
returns-else-x c = rw (← zero_is, c.if-x.false)
