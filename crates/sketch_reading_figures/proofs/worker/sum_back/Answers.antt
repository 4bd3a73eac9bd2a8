use Rattle.sketch_reading_figures.proofs.FigureLoops.{summing_begin, summing_exact, summing_room, summing_on, summing_end, summing_few}
use native.Mathlib.Omega.{arith}
use borrow.Author.Rules.{rules}
use Rattle.sketch_reading_figures.proofs.worker.sum_back.Goals as goal

pub loop-back-init : goal.loop-back-init
loop-back-init c = search (summing_begin, rules)

pub plus-sum-requires : goal.plus-sum-requires
plus-sum-requires c = (search (summing_exact, rules), summing_room _ _ _ _ _ _ c.loop-back.invariant _ (omega arith) (search rules))

pub loop-back-preserved : goal.loop-back-preserved
loop-back-preserved c =
    summing_on _ _ _ _ _ _ c.loop-back.invariant _ _ _ (omega arith) (omega arith) (search rules) c.least_in-in-loop-back.ensures.0 (search rules) c.plus-sum.ensures

pub returns : goal.returns
returns c = (
  summing_end _ _ _ _ _ _ c.loop-back.invariant _ _ (search rules) c.min-back-end.ensures (omega arith),
  summing_few _ _ _ _ _ _ c.loop-back.invariant (omega arith),
)

-- the last sub-window has been added
pub returns-2 : goal.returns-2
returns-2 c =
    let w =
    summing_on _ _ _ _ _ _ c.loop-back.invariant _ _ c.plus-sum.result (omega arith) (omega arith) (search rules) c.least_in-in-loop-back.ensures.0 (search rules) c.plus-sum.ensures
    in (summing_end _ _ _ _ _ _ w _ _ (search rules) c.min-back-end.ensures (omega arith), summing_few _ _ _ _ _ _ w (omega arith))
