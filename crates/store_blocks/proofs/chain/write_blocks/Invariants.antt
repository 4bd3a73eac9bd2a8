-- `blocks::chain::write_blocks` meets its contract. The blocks before block i, and those of the rest, make all of them (`Filling`).
use Rattle.store_blocks.proofs.ChainLoops.{Filling}
use Prim.Native.Nat.{◌/◌}
use lib.ListN.{length}
use Rattle.store_blocks.proofs.chain.write_blocks.Given as goal

abbrev pub invariant-loop-i : goal.invariant-loop-i
invariant-loop-i l = Filling (length l.initial.blocks / 512) l.grid l.initial.blocks l.blocks l.i
