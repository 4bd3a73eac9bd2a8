-- A store is the header's block and the grid's blocks behind it: each law of a row of blocks, at its first block and at the rest.
use Prim.Native.Nat.{ℕ, suc, ◌+◌, ◌-◌, ◌*◌, ◌/◌, ◌^◌, ◌≤◌}
use mathlib.Core.Path.{◌≡◌, ap₂, ◌∙◌}
use mathlib.Core.Bool.{true, ◌&&◌}
use mathlib.Core.List.{List, ◌++◌}
use lib.ListN.{length, take, drop, length-append}
use native.Mathlib.Omega.{arith}
use Rattle.laws.specs.Bytes.{bytes_of}
use Rattle.laws.proofs.ByteLaws.{bytes_small}
use Rattle.clock.specs.Clock.{length_of, reading_of}
use Rattle.sketch.specs.declared.MicroCm.{MicroCm}
use Rattle.store_bytes.specs.Fill.{filled}
use Rattle.store_blocks.specs.Blocks.{block_of, blocks_from, blocks_pass, carried}
use Rattle.store_header.specs.Header.{kind_of, epoch_of, header_with}
use Rattle.store_header.specs.Workers.{header_of}
use Rattle.store.specs.Store.{store_length, store_of, store_with}
use Rattle.store.specs.Workers.{grid_blocks}
use Rattle.store.specs.Refusals.{header_payload}
use Rattle.laws.proofs.SmallLaws.{Small, small_append}
use Rattle.store_blocks.proofs.BlockLaws.{block_length, block_payload, block_passes_lem}
use Rattle.store_blocks.proofs.ChainLaws.{from_length, from_passes, from_payloads, first_taken, first_dropped, pass_suc}

header_small : (k : MicroCm) → Small (header_of k)
unfolding header_with
header_small k =
    next 4 1 _ (next 4 k.rows _ (next 4 k.cols _ (next 4 k.params.t _ (next 4 k.params.c _ (next 4 (kind_of k.clock) _
    (next 8 (length_of k.clock) _ (next 8 (epoch_of k.clock) _ (next 8 (reading_of k.clock) _ (bytes_small 8 k.rounding.state)))))))))
  where
    next : (width n : ℕ) (rest : List ℕ) → Small rest → Small (bytes_of width n ++ rest)
    next width n rest = small_append (bytes_of width n) rest (bytes_small width n)

module _ (k : MicroCm) (g : List ℕ) where
  pub store_length_lem : length (store_of k g) ≡ store_length k
  unfolding store_with
  store_length_lem =
      length-append (block_of 0 (header_of k)) (blocks_from 1 (grid_blocks k) g) ∙ rw (block_length 0 (header_of k), from_length 1 (grid_blocks k) g) (omega arith)

  store_first : take 512 (store_of k g) ≡ block_of 0 (header_of k)
  unfolding store_with
  store_first = first_taken 0 (header_of k) (blocks_from 1 (grid_blocks k) g)

  store_rest : drop 512 (store_of k g) ≡ blocks_from 1 (grid_blocks k) g
  unfolding store_with
  store_rest = first_dropped 0 (header_of k) (blocks_from 1 (grid_blocks k) g)

  store_count : length (store_of k g) / 512 ≡ suc (grid_blocks k)
  store_count = rw store_length_lem (omega arith)

  pub store_header : header_payload (store_of k g) ≡ filled 504 (header_of k)
  store_header = rw store_first (block_payload 0 (header_of k))

  pub store_carries : carried (store_of k g) ≡ filled (504 * grid_blocks k) g
  store_carries =
      let n : length (store_of k g) / 512 - 1 ≡ grid_blocks k = omega (arith, store_count) in
      rw (n, store_rest) (from_payloads 1 (grid_blocks k) g)

  module _ (small : Small g) where
    pub store_passes : 1 + grid_blocks k ≤ 2 ^ 32 → blocks_pass 0 (length (store_of k g) / 512) (store_of k g) ≡ true
    store_passes few =
        rw (store_count, pass_suc, store_first, store_rest)
        (ap₂ ◌&&◌ (block_passes_lem 0 (header_of k) (header_small k) (omega arith)) (from_passes 1 (grid_blocks k) g small few))
