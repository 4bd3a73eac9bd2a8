use Rattle.sketch_reading_rows.proofs.RowLoops.{leasting_begin, leasting_on, leasting_end}
use native.Mathlib.Omega.{arith}
use borrow.Author.Rules.{rules}
use Rattle.sketch_reading_rows.proofs.worker.least_in.Goals as goal

pub loop-row-init : goal.loop-row-init
loop-row-init c = search (leasting_begin, rules)

pub loop-row-preserved : goal.loop-row-preserved
loop-row-preserved c = leasting_on _ _ _ _ _ _ c.loop-row.invariant _ _ (omega arith) c.row_items.ensures.0 c.min-least.ensures

pub returns : goal.returns
returns c = (leasting_end _ _ _ _ _ _ c.loop-row.invariant (omega (arith, c.requires.readable.0.ready.rows_low)), search rules)
