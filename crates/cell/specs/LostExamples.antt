-- Document 02, T-04, worked by hand: one cell with t = 1 and c = 2, whose max_zoom is 31 (pixels, Z, s).
use Rattle.std.specs.Prelude.{ℕ, ◌+◌, ◌-◌, ◌^◌, ◌≡◌, List}
use Rattle.laws.specs.Steps.{Step, still, made}
use Rattle.rounding.specs.Draws.{next_state}
use Rattle.cell.specs.Merge.{merge_of}
use Rattle.cell.specs.BenchSheet.{cell_with, inserted, crossed}

-- one draw was made, and so many units are lost
abbrev pub drew_and_lost : List ℕ → ℕ → ℕ → Step
drew_and_lost b σ lost = made b (next_state σ) 1 lost

-- no draw, and so many units are lost
abbrev pub losing : List ℕ → ℕ → ℕ → Step
losing b σ lost = made b σ 0 lost

abbrev pub merged : ℕ → List ℕ → List ℕ → ℕ → Step
merged n b src σ = merge_of 1 2 n b src σ

pub record LostWorked : Type 0 where
  -- INSERTION. Item 5 of the bench sheet: the item that makes a whole unit finds a full pixel at max_zoom. From 255 × 2 ^ 31 + 2 ^ 31 − 1 items to 255 × 2 ^ 31
  pub dropped : (σ : ℕ) → inserted 0 (cell_with 255 0 0 31 (2 ^ 31 - 1)) σ ≡ losing (cell_with 255 0 0 31 0) σ 1
  -- a level below max_zoom the cell zooms out, which loses nothing
  pub raised : (σ : ℕ) → inserted 0 (cell_with 255 0 0 30 (2 ^ 30 - 1)) σ ≡ still (cell_with 128 0 0 31 0) σ
  -- the last unit that fits; a full pixel of another sub-window; and an item that only moves the shutter
  pub fits : (σ : ℕ) → inserted 0 (cell_with 254 0 0 31 (2 ^ 31 - 1)) σ ≡ still (cell_with 255 0 0 31 0) σ
  pub elsewhere : (σ : ℕ) → inserted 0 (cell_with 0 255 255 31 (2 ^ 31 - 1)) σ ≡ still (cell_with 1 255 255 31 0) σ
  pub shutter_moves : (σ : ℕ) → inserted 0 (cell_with 255 0 0 31 5) σ ≡ still (cell_with 255 0 0 31 6) σ
  -- CROSSING. The shutter closes to 1 into the full pixel of the sub-window that ends
  pub closed_up : crossed 1 1 (cell_with 255 7 0 31 (2 ^ 31 - 1)) 2 ≡ drew_and_lost (cell_with 255 0 0 31 0) 2 1
  -- it closes to 0: nothing is credited
  pub closed_down : crossed 1 1 (cell_with 255 7 0 31 1) 2 ≡ drew_and_lost (cell_with 255 0 0 31 0) 2 0
  -- what is cleared has left the window, and is not lost: by two, and by a far jump
  pub cleared : (σ : ℕ) → crossed 2 2 (cell_with 255 255 255 31 0) σ ≡ still (cell_with 255 0 0 31 0) σ
  pub far : (σ : ℕ) → crossed 3 3 (cell_with 255 255 255 31 7) σ ≡ still (cell_with 0 0 0 0 0) σ
  -- MERGE. 510 and 400 are cut to 255: 255 and 145 units
  pub cut : (σ : ℕ) → merged 2 (cell_with 255 200 3 31 0) (cell_with 255 200 4 31 0) σ ≡ losing (cell_with 255 255 7 31 0) σ 400
  -- two shutters make a unit more, for the pixel of n: 511 is cut by 256
  pub carried : (σ : ℕ) → merged 0 (cell_with 255 0 0 31 (2 ^ 30)) (cell_with 255 0 0 31 (2 ^ 30 + 9)) σ ≡ losing (cell_with 255 0 0 31 9) σ 256
  -- below max_zoom a raise comes first: 511 becomes 255 or, by an even draw, 256, of which 1 is cut
  pub raised_and_cut : merged 0 (cell_with 255 0 0 30 (2 ^ 29)) (cell_with 255 0 0 30 (2 ^ 29)) 2 ≡ drew_and_lost (cell_with 255 0 0 31 0) 2 1
  pub raised_to_fit : merged 0 (cell_with 255 0 0 30 (2 ^ 29)) (cell_with 255 0 0 30 (2 ^ 29)) 1 ≡ drew_and_lost (cell_with 255 0 0 31 0) 1 0
  -- 255 fits
  pub just_fits : (σ : ℕ) → merged 1 (cell_with 200 0 0 31 0) (cell_with 55 0 0 31 0) σ ≡ still (cell_with 255 0 0 31 0) σ
