-- `scale_down`: each turn is one level of `scale_down`. Assumes nothing.
use Rattle.cell_merging_sums.proofs.SumLoops.{Scaling}
use Prim.Native.Nat.{◌-◌}
use Rattle.cell_merging_sums.proofs.worker.scale_down.Given as goal

abbrev pub invariant-loop : goal.invariant-loop
invariant-loop l = Scaling l.levels l.c l.value l.state l.x l.after l.draws (l.levels - l.counter)
