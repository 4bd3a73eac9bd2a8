-- Document 01, "Audit and block store": the store of a sketch with its grid.
use Rattle.std.specs.Prelude.{ℕ, ◌+◌, ◌*◌, ◌/◌, List, ◌++◌}
use Rattle.sketch.specs.declared.MicroCm.{MicroCm}
use Rattle.sketch.specs.Sketch.{grid_bytes}
use Rattle.store_blocks.specs.Blocks.{block_bytes, payload_bytes, block_of, blocks_from}
use Rattle.store_header.specs.Header.{form_number, header_with}

-- OF ANY FORM, and of a grid of so many bytes
-- grid bytes divided by 504, rounded up
abbrev pub blocks_for : ℕ → ℕ
blocks_for size = (size + 503) / payload_bytes

-- 512 × (1 + that)
abbrev pub store_bytes : ℕ → ℕ
store_bytes size = block_bytes * (1 + blocks_for size)

-- the header's block, and from block 1 on the grid, zero-filled
unfoldable pub store_with : ℕ → ℕ → MicroCm → List ℕ → List ℕ
store_with form size k g = block_of 0 (header_with form k) ++ blocks_from 1 (blocks_for size) g

-- OF THE FORM THAT IS SAVED AND LOADED, with a sketch's own grid
abbrev pub store_length : MicroCm → ℕ
store_length k = store_bytes (grid_bytes k)

abbrev pub store_of : MicroCm → List ℕ → List ℕ
store_of k g = store_with form_number (grid_bytes k) k g
