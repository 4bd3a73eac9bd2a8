-- Document 01, "Turning a call back", for the block store; a load has its own order. Each call's answer, whole, and the bytes that it leaves.
use Rattle.std.specs.Prelude.{ℕ, ◌/◌, ◌%◌, not, ◌||◌, List, eqb, length, take, drop}
use Rattle.refusal.specs.declared.Verdict.{Verdict}
use Rattle.refusal.specs.declared.Verdict.TheVariants as verdict
use Rattle.refusal.specs.Refusals.{when_accepted, and_then}
use Rattle.refusal.specs.Causes.{Cause, cause, refuse_by}
use Rattle.sketch.specs.declared.MicroCm.{MicroCm}
use Rattle.sketch.specs.Sketch.{grid_bytes, all_cells}
use Rattle.sketch.specs.Refusals.{refuse_grid, refuse_sketch, refuse_unsound, SketchOutcome, sketch_call, world, no_sketch, numbers_verdict}
use Rattle.store.specs.declared.LengthAnswer.{LengthAnswer}
use Rattle.store_bytes.specs.Fill.{all_zero}
use Rattle.store_blocks.specs.Blocks.{block_bytes, blocks_pass, payload_of, carried}
use Rattle.store_header.specs.Header.{sketch_in}
use Rattle.store_header.specs.Refusals.{header_verdict}
use Rattle.store.specs.Store.{store_bytes, store_length, store_of}

-- THE EXACT LENGTH of a sketch's store
unfoldable pub length_call : MicroCm → LengthAnswer
length_call k = record { verdict = numbers_verdict k; length = when_accepted (numbers_verdict k) (store_length k) 0 }

-- 16: a store that is not the exact length for a grid of so many bytes
abbrev pub other_length : ℕ → List ℕ → Cause
other_length size store = cause 16 (not (eqb (length store) (store_bytes size)))

abbrev pub refuse_length : MicroCm → List ℕ → Verdict → Verdict
refuse_length k store rest = refuse_by (other_length (grid_bytes k) store) rest

-- SAVE: 1 to 6, 14 over the whole grid, 16
abbrev pub save_verdict : MicroCm → List ℕ → List ℕ → Verdict
save_verdict k g store = refuse_sketch k g (refuse_unsound k g (all_cells k) (refuse_length k store verdict.Accepted))

pub record SaveOutcome : Type 0 where
  pub verdict : Verdict
  pub store : List ℕ

abbrev pub save_outcome : Verdict → List ℕ → SaveOutcome
save_outcome v store = record { verdict = v; store = store }

unfoldable pub save_call : MicroCm → List ℕ → List ℕ → SaveOutcome
save_call k g store = save_outcome (save_verdict k g store) (when_accepted (save_verdict k g store) (store_of k g) store)

-- LOAD
abbrev pub header_payload : List ℕ → List ℕ
header_payload store = payload_of (take block_bytes store)

-- the grid that is stored for a sketch
abbrev pub grid_in : MicroCm → List ℕ → List ℕ
grid_in k store = take (grid_bytes k) (carried store)

-- 16: an empty store, or no whole number of blocks
abbrev pub no_blocks : List ℕ → Cause
no_blocks store = cause 16 (eqb (length store) 0 || not (eqb (length store % block_bytes) 0))

-- 17: a block's number or its sum
abbrev pub bad_block : List ℕ → Cause
bad_block store = cause 17 (not (blocks_pass 0 (length store / block_bytes) store))

-- 18: a byte behind the grid that is not 0
abbrev pub bad_fill : ℕ → List ℕ → Cause
bad_fill size store = cause 18 (not (all_zero (drop size (carried store))))

-- 16 for the exact length, 18 for the fill, 6 for the grid lent, 14 over the stored cells
abbrev pub grid_verdict : MicroCm → List ℕ → List ℕ → Verdict
grid_verdict k g store =
    refuse_length k store
    (refuse_by (bad_fill (grid_bytes k) store)
    (refuse_grid k g (refuse_unsound k (grid_in k store) (all_cells k) verdict.Accepted)))

-- 16 for an empty store or no whole number of blocks, 17 over every block
abbrev pub refuse_blocks : List ℕ → Verdict → Verdict
refuse_blocks store rest = refuse_by (no_blocks store) (refuse_by (bad_block store) rest)

-- the blocks, then the header's answer, then what it leaves
abbrev pub load_verdict : List ℕ → List ℕ → Verdict
load_verdict g store =
    refuse_blocks store (and_then (header_verdict (header_payload store)) (grid_verdict (sketch_in (header_payload store)) g store))

unfoldable pub load_call : List ℕ → List ℕ → SketchOutcome
load_call g store =
    let k = sketch_in (header_payload store) in
    sketch_call (load_verdict g store) (world k (grid_in k store)) (world no_sketch g)
