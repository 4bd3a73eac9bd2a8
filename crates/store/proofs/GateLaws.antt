-- The causes that a load finds in the blocks, as one gate. Assumes nothing.
use Prim.Native.Nat.{ℕ, ◌/◌, ◌%◌}
use mathlib.Core.Bool.{not, ◌||◌}
use mathlib.Core.List.{List}
use lib.Dec.{eqb}
use lib.ListN.{length}
use Rattle.refusal.specs.Refusals.{refuse}
use Rattle.refusal.proofs.VerdictLaws.{refuse_then}
use Rattle.refusal.proofs.GateLaws.{Gate, gate_chain}
use Rattle.store_blocks.specs.Blocks.{blocks_pass}
use Rattle.store.specs.Refusals.{refuse_blocks}

-- 16 and 17 over the blocks
pub blocks_gate : (store : List ℕ) → Gate (refuse_blocks store)
blocks_gate store =
    let cut = eqb (length store) 0 || not (eqb (length store % 512) 0) in
    let damaged = not (blocks_pass 0 (length store / 512) store) in
    gate_chain (refuse 16 cut) (refuse 17 damaged) (refuse_then 16 cut) (refuse_then 17 damaged)
