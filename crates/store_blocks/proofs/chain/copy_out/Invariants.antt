-- `blocks::chain::copy_out` meets its contract. So far every byte is the one that the blocks carry there (`Writing`), and what one
-- block carries stands together; the measure is what is left of the room.
use Rattle.store_blocks.proofs.ChainLoops.{Writing}
use Rattle.laws.specs.Parts.{part}
use Rattle.store_blocks.specs.Blocks.{carried}
use Prim.Native.Nat.{◌-◌}
use lib.ListN.{length}
use Rattle.store_blocks.proofs.chain.copy_out.Given as goal

abbrev pub invariant-loop-i : goal.invariant-loop-i
invariant-loop-i l = Writing (part l.at (length l.initial.out) (carried l.store)) l.initial.out l.out l.i

abbrev pub decreases-loop-i : goal.decreases-loop-i
decreases-loop-i l = length l.out - l.i
