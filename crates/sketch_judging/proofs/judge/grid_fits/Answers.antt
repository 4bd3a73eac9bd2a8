-- `grid_fits`: each test is a part of the definition's, and rows is tested before it is multiplied. Assumes nothing.
use Rattle.sketch.proofs.SettingsCases.{bits_decide}
use Rattle.sketch_judging.proofs.ShapeLaws.{unfit_told}
use borrow.Author.Rules.{rules}
use Rattle.sketch_judging.proofs.judge.grid_fits.Goals as goal

pub returns-then-rows-le128 : goal.returns-then-rows-le128
returns-then-rows-le128 c = bits_decide _ _ _ c.column_bits-bits.ensures.0 c.if-rows-le128.true.0 c.if-rows-le128.true.1

pub returns-else-rows-le128 : goal.returns-else-rows-le128
returns-else-rows-le128 c = unfit_told _ _ _ c.column_bits-bits.ensures.0 c.if-rows-le128.either _ (search rules)
