-- Document 01, "Bench sheet": items 1 to 9, of one cell with t = 1 and c = 2 (pixels, Z, s).
-- Item 10 is microscope's; crate bench_sheet joins the ten in one statement.
use Rattle.std.specs.Prelude.{ℕ, ◌-◌, ◌%◌, ◌^◌, ◌≡◌, List, ◌∷◌}
use Rattle.laws.specs.Bytes.{bytes_of}
use Rattle.laws.specs.Steps.{Step, still, made}
use Rattle.rounding.specs.Draws.{next_state, yielded}
use Rattle.cell.specs.Insertion.{dropped, insert_of}
use Rattle.cell.specs.Crossing.{cross_of}
use Rattle.cell.specs.Merge.{merge_of}

-- the eight bytes of a bench cell
abbrev pub cell_with : ℕ → ℕ → ℕ → ℕ → ℕ → List ℕ
cell_with p₀ p₁ p₂ z s = p₀ ∷ p₁ ∷ p₂ ∷ z ∷ bytes_of 4 s

-- these bytes after one draw from the state σ
abbrev pub one_draw : List ℕ → ℕ → Step
one_draw b σ = made b (next_state σ) 1 0

abbrev pub inserted : ℕ → List ℕ → ℕ → Step
inserted n b σ = insert_of 1 2 n b σ

abbrev pub crossed : ℕ → ℕ → List ℕ → ℕ → Step
crossed by n b σ = cross_of 1 2 n by b σ

-- a cell merged with its equal
abbrev pub doubled : ℕ → List ℕ → ℕ → Step
doubled n b σ = merge_of 1 2 n b b σ

pub record CellItems : Type 0 where
  pub item_1 : (σ : ℕ) → inserted 0 (cell_with 0 0 0 0 0) σ ≡ still (cell_with 1 0 0 0 0) σ
  pub item_2 : (σ : ℕ) → inserted 0 (cell_with 255 10 0 0 0) σ ≡ still (cell_with 128 5 0 1 0) σ
  pub item_3 : inserted 0 (cell_with 255 11 0 0 0) 1 ≡ made (cell_with 128 5 0 1 0) 33554433 1 0
  pub item_4 : (p₀ p₁ p₂ n σ : ℕ) → inserted n (cell_with p₀ p₁ p₂ 1 0) σ ≡ still (cell_with p₀ p₁ p₂ 1 1) σ
  -- the unit is dropped, and 1 is lost (document 02, T-04)
  pub item_5 : (σ : ℕ) → inserted 0 (cell_with 255 0 0 31 (2 ^ 31 - 1)) σ ≡ dropped (cell_with 255 0 0 31 0) σ
  pub item_6 : (σ : ℕ)
      → (crossed 1 1 (cell_with 127 0 0 1 0) σ ≡ still (cell_with 254 0 0 0 0) σ)
      × (crossed 1 1 (cell_with 128 0 0 1 0) σ ≡ still (cell_with 128 0 0 1 0) σ)
  pub item_7 : (σ : ℕ)
      → (crossed 2 2 (cell_with 100 0 0 0 0) σ ≡ still (cell_with 100 0 0 0 0) σ)
      × (crossed 3 3 (cell_with 100 0 0 0 0) σ ≡ still (cell_with 0 0 0 0 0) σ)
  pub item_8 : (σ : ℕ) → doubled 1 (cell_with 255 0 0 0 0) σ ≡ still (cell_with 255 0 0 1 0) σ
  pub item_9 : (doubled 0 (cell_with 255 0 0 1 1) 1 ≡ one_draw (cell_with 255 0 0 2 0) 1)
      × ((σ : ℕ) → yielded (next_state σ) % 2 ≡ 0 → doubled 0 (cell_with 255 0 0 1 1) σ ≡ one_draw (cell_with 128 0 0 3 0) σ)
  -- beside the nine, a shutter that is closed by an even draw: its unit is the ended sub-window's, and the cell zooms in
  pub closing : crossed 1 1 (cell_with 0 0 0 1 1) 2 ≡ made (cell_with 2 0 0 0 0) 67108866 1 0
