-- Document 01 in other words, beside the definitions: where the limits of rows and cols lie, what a key is, and which cells each call looks at.
-- A definition that moved a limit or judged another cell would not have these.
use Rattle.std.specs.Prelude.{ℕ, ◌*◌, ◌^◌, ◌≤◌, ◌<◌, ◌≡◌, Bool, true, false, List, length, get_or}
use Rattle.refusal.specs.declared.Verdict.TheVariants.{Accepted}
use Rattle.refusal.specs.Refusals.{is_accepted}
use Rattle.cell.specs.declared.MicroParams.{MicroParams}
use Rattle.cell.specs.Cell.{sound_of}
use Rattle.clock.specs.declared.SubWindowClock.{SubWindowClock}
use Rattle.clock.specs.Clock.{n_of, is_count, tick_of, advance_of}
use Rattle.sketch.specs.declared.MicroCm.{MicroCm}
use Rattle.sketch.specs.Sketch.{cells_of, cell_index, cell_of}
use Rattle.sketch.specs.Refusals.{grid_fits, key_fits, sketch_verdict, fresh_verdict, update_verdict, update_at_verdict, advance_verdict, bucket_verdict}
use Rattle.sketch.specs.Refusals.{highest_verdict, merge_verdict}

-- ROWS AND COLS: cols is 2 ^ bits with bits from 1 to 16, rows at least 1, and rows × bits at most 128
pub record Fitting (rows cols : ℕ) : Type 0 where
  pub bits : ℕ
  pub bits_low : 1 ≤ bits
  pub bits_high : bits ≤ 16
  pub power : cols ≡ 2 ^ bits
  pub rows_low : 1 ≤ rows
  pub few : rows * bits ≤ 128

-- the last that fit and the first that don't
pub record Limits : Type 0 where
  pub least : grid_fits 1 2 ≡ true
  pub no_row : grid_fits 0 2 ≡ false
  pub one_col : grid_fits 1 1 ≡ false
  pub no_power : grid_fits 1 3 ≡ false
  pub most_cols : grid_fits 8 65536 ≡ true
  pub too_many_bits : grid_fits 9 65536 ≡ false
  pub too_many_cols : grid_fits 1 131072 ≡ false
  pub most_rows : grid_fits 128 2 ≡ true
  pub too_many_rows : grid_fits 129 2 ≡ false

-- A KEY: one column a row, each below cols
pub record OneColumnARow (k : MicroCm) (key : List ℕ) : Type 0 where
  pub each_row : length key ≡ k.rows
  pub each_low : (row : ℕ) → row < length key → get_or key row 0 < k.cols

-- THE CELLS
abbrev pub sound_at : MicroCm → List ℕ → ℕ → Bool
sound_at k g j = sound_of k.params.t k.params.c (cell_of k g j)

-- every cell of the key is sound, whatever the others hold
abbrev pub KeySound : MicroCm → List ℕ → List ℕ → Type 0
KeySound k key g = (row : ℕ) → row < length key → sound_at k g (cell_index k row (get_or key row 0)) ≡ true

-- some cell of the grid is not
pub record SomeUnsound (k : MicroCm) (g : List ℕ) : Type 0 where
  pub index : ℕ
  pub inside : index < cells_of k
  pub bad : sound_at k g index ≡ false

-- n stays where it is
abbrev pub Stays : MicroCm → SubWindowClock → Type 0
Stays k clock = n_of clock ≡ n_of k.clock

pub record Acceptance : Type 0 where
  pub fitting : (rows cols : ℕ) → grid_fits rows cols ≡ true → Fitting rows cols
  pub fits : (rows cols : ℕ) → Fitting rows cols → grid_fits rows cols ≡ true
  pub limits : Limits
  pub key_is : (k : MicroCm) (key : List ℕ) → key_fits k key ≡ true → OneColumnARow k key
  pub key_fits_lem : (k : MicroCm) (key : List ℕ) → OneColumnARow k key → key_fits k key ≡ true
  -- a fresh start, the lookup and an advance within its sub-window judge no cell: grids of the same length get the same verdict
  pub fresh_judges_none : (rows cols : ℕ) (p : MicroParams) (clock : SubWindowClock) (seed : ℕ) (g g' : List ℕ) → length g ≡ length g'
      → fresh_verdict rows cols p clock seed g ≡ fresh_verdict rows cols p clock seed g'
  pub bucket_judges_none : (k : MicroCm) (row col : ℕ) (g g' : List ℕ) → length g ≡ length g' → bucket_verdict k row col g ≡ bucket_verdict k row col g'
  pub advance_judges_none : (k : MicroCm) (reading : ℕ) (g g' : List ℕ) → Stays k (advance_of k.clock reading) → length g ≡ length g'
      → advance_verdict k reading g ≡ advance_verdict k reading g'
  -- an item within its sub-window looks at the key's cells and no others
  pub update_looks_at_key : (k : MicroCm) (key g : List ℕ) → sketch_verdict k g ≡ Accepted → key_fits k key ≡ true → is_count k.clock ≡ true
      → Stays k (tick_of k.clock) → KeySound k key g → update_verdict k key g ≡ Accepted
  pub update_at_looks_at_key : (k : MicroCm) (key : List ℕ) (reading : ℕ) (g : List ℕ) → sketch_verdict k g ≡ Accepted → key_fits k key ≡ true
      → is_count k.clock ≡ false
      → Stays k (advance_of k.clock reading) → KeySound k key g → update_at_verdict k key reading g ≡ Accepted
  -- a call that crosses looks at every cell; so do the highest zoom and, in both grids, a merge
  pub update_looks_at_all : (k : MicroCm) (key g : List ℕ) → (Stays k (tick_of k.clock) → ⊥) → SomeUnsound k g → is_accepted (update_verdict k key g) ≡ false
  pub update_at_looks_at_all : (k : MicroCm) (key : List ℕ) (reading : ℕ) (g : List ℕ) → (Stays k (advance_of k.clock reading) → ⊥) → SomeUnsound k g
      → is_accepted (update_at_verdict k key reading g) ≡ false
  pub advance_looks_at_all : (k : MicroCm) (reading : ℕ) (g : List ℕ) → (Stays k (advance_of k.clock reading) → ⊥) → SomeUnsound k g
      → is_accepted (advance_verdict k reading g) ≡ false
  pub highest_looks_at_all : (k : MicroCm) (g : List ℕ) → SomeUnsound k g → is_accepted (highest_verdict k g) ≡ false
  pub merge_looks_at_all : (k : MicroCm) (g : List ℕ) (k' : MicroCm) (g' : List ℕ) → SomeUnsound k g → is_accepted (merge_verdict k g k' g') ≡ false
  pub merge_looks_at_other : (k : MicroCm) (g : List ℕ) (k' : MicroCm) (g' : List ℕ) → SomeUnsound k' g' → is_accepted (merge_verdict k g k' g') ≡ false
