-- Document 02, T-11, worked by hand: one cell with t = 1 (pixels, Z, s).
use Rattle.std.specs.Prelude.{ℕ, ◌≡◌, List}
use Rattle.cell.specs.Crossing.{cross_of}
use Rattle.cell.specs.BenchSheet.{cell_with}
use Rattle.cell.specs.ZoomIn.{levels_in, cleared_of}

-- a crossing by so many to n: the cell when clearing is done, k, and what the crossing leaves
abbrev pub Works : (c by n : ℕ) (b : List ℕ) (σ : ℕ) (cleared : List ℕ) (k : ℕ) (after : List ℕ) → Type 0
Works c by n b σ cleared k after = (cleared_of 1 c n by b σ ≡ cleared) × (levels_in 1 c cleared ≡ k) × ((cross_of 1 c n by b σ).bytes ≡ after)

pub record ZoomInWorked : Type 0 where
  -- a byte holds 255 and not 256: item 6 of the bench sheet, and the base 3, where 3 × 85 is 255
  pub just_fits : (σ : ℕ) → Works 2 1 1 (cell_with 127 0 0 1 0) σ (cell_with 127 0 0 1 0) 1 (cell_with 254 0 0 0 0)
  pub just_over : (σ : ℕ) → Works 2 1 1 (cell_with 128 0 0 1 0) σ (cell_with 128 0 0 1 0) 0 (cell_with 128 0 0 1 0)
  pub to_the_brim : (σ : ℕ) → Works 3 1 1 (cell_with 85 0 0 1 0) σ (cell_with 85 0 0 1 0) 1 (cell_with 255 0 0 0 0)
  -- several levels at once, and the largest pixel sets them for all: 2 ^ 3 × 31 is 248
  pub by_three : (σ : ℕ) → Works 2 1 1 (cell_with 31 9 5 7 0) σ (cell_with 31 0 5 7 0) 3 (cell_with 248 0 40 4 0)
  -- k is at most Z: 2 ^ 7 × 1 would fit too
  pub at_most_zoom : (σ : ℕ) → Works 2 1 1 (cell_with 1 0 0 1 0) σ (cell_with 1 0 0 1 0) 1 (cell_with 2 0 0 0 0)
  -- all t + 2 pixels: at n = 2 no figure covers slot 0, at n = 4 none covers slot 2, and it holds the others back
  pub uncovered : (σ : ℕ) → Works 2 2 2 (cell_with 200 0 0 1 0) σ (cell_with 200 0 0 1 0) 0 (cell_with 200 0 0 1 0)
  pub uncovered_last : (σ : ℕ) → Works 2 1 4 (cell_with 1 9 200 1 0) σ (cell_with 1 0 200 1 0) 0 (cell_with 1 0 200 1 0)
  -- the pixels when clearing is done: a 200 that is cleared holds nothing back
  pub cleared_first : (σ : ℕ) → Works 2 1 1 (cell_with 0 200 0 1 0) σ (cell_with 0 0 0 1 0) 1 (cell_with 0 0 0 0 0)
  -- Z when clearing is done: the shutter closes up into a full pixel, which raises it from 1 to 2, and there it stays
  pub raised_first : Works 2 1 1 (cell_with 255 0 0 1 1) 2 (cell_with 128 0 0 2 0) 0 (cell_with 128 0 0 2 0)
  -- all pixels zero: k = Z, from max_zoom down by a far jump
  pub all_zero : (σ : ℕ) → Works 2 3 3 (cell_with 255 255 255 31 7) σ (cell_with 0 0 0 31 0) 31 (cell_with 0 0 0 0 0)
  -- a crossing of 0 changes nothing, though the cell could zoom in
  pub by_none : (σ : ℕ) → (cross_of 1 2 1 0 (cell_with 1 0 0 1 1) σ).bytes ≡ cell_with 1 0 0 1 1
