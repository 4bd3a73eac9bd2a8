-- `blocks::block::weighed` meets its contract. The sum so far, and the weighed rest, make the whole (`Weighing`).
use Rattle.store_blocks.proofs.BlockLoops.{Weighing}
use Rattle.store_blocks.proofs.block.weighed.Given as goal

abbrev pub invariant-loop-i : goal.invariant-loop-i
invariant-loop-i l = Weighing l.b l.sum l.i
