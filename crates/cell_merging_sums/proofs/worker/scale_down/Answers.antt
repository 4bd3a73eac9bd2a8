use Rattle.cell_merging_sums.proofs.SumLoops.{scaling_fits, scaling_on, scaling_end}
use native.Mathlib.Omega.{arith}
use Rattle.cell_merging_sums.proofs.worker.scale_down.Goals as goal

pub overflow_add-draws : goal.overflow_add-draws
overflow_add-draws c = record { fits = scaling_fits _ _ _ _ _ _ _ _ c.loop.invariant (omega arith) _ c.from.ensures _ c.divide-divided.ensures (omega arith) }

pub loop-preserved : goal.loop-preserved
loop-preserved c = scaling_on _ _ _ _ _ _ _ _ c.loop.invariant (omega arith) _ c.from.ensures _ c.divide-divided.ensures _ (omega arith)

pub returns : goal.returns
returns c = scaling_end _ _ _ _ _ _ _ _ c.loop.invariant (omega arith)
