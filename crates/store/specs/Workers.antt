-- What the workers promise each other. No public contract cites this file.
use Rattle.std.specs.Prelude.{ℕ, ◌<◌, ◌≤◌, ◌≡◌}
use Rattle.refusal.specs.declared.Verdict.TheVariants.{Accepted}
use Rattle.sketch.specs.declared.MicroCm.{MicroCm}
use Rattle.sketch.specs.Sketch.{grid_bytes}
use Rattle.sketch.specs.Refusals.{numbers_verdict}
use Rattle.store.specs.Store.{blocks_for, store_length}

-- the bytes of a judged sketch's grid: at the most 128 rows of 65,536 cells of 4,104 bytes
pub record Sized (k : MicroCm) (size : ℕ) : Type 0 where
  pub is : size ≡ grid_bytes k
  pub some : 0 < size
  pub few : size ≤ 34426847232

-- the blocks behind the header's
abbrev pub grid_blocks : MicroCm → ℕ
grid_blocks k = blocks_for (grid_bytes k)

-- a store of so many bytes is as long as the judged sketch's must be
pub record Stored (k : MicroCm) (size : ℕ) : Type 0 where
  pub good : numbers_verdict k ≡ Accepted
  pub exact : size ≡ store_length k
