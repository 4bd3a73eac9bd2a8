-- What a move and a recording lose is what the cells lose, of a world with accepted settings: a move goes from cell to cell, a recording from row to row,
-- and a step's loss is added to that of the steps before it. Assumes nothing.
use Prim.Native.Nat.{ℕ, suc, ◌+◌, ◌-◌, ◌*◌, ◌/◌, ◌%◌, ◌≤◌, ◌<◌}
use mathlib.Core.Path.{◌≡◌, sym, ap, ◌∙◌}
use mathlib.Core.Bool.{true}
use mathlib.Core.List.{List}
use lib.Arith.{digits_lt}
use lib.ListN.{length}
use native.Mathlib.Omega.{arith}
use native.Mathlib.Nat.{mul-pos, div-add-mod', div-lt_iff_lt-mul, mod-lt}
use Rattle.laws.specs.Passes.{each_of}
use Rattle.laws.proofs.SumLaws.{total_same, total_none}
use Rattle.laws.proofs.PieceLaws as pieces
use Rattle.cell.specs.Cell.{depth_of}
use Rattle.cell.specs.Lost.{loses_closing, one_if}
use Rattle.cell.specs.Workers.{Fit}
use Rattle.cell.proofs.LostLaws.{EmptyAtTop, cross_lost, empty_item, empty_closing, insert_empties, cross_empties}
use Rattle.clock.specs.declared.SubWindowClock.{SubWindowClock}
use Rattle.clock.specs.Clock.{n_of}
use Rattle.sketch.specs.declared.MicroCm.{MicroCm}
use Rattle.sketch.specs.Sketch.{cells_of, cell_index, cell_of, key_cells, cross_cell, cross_each, World, recorded, moved, begins, state_at}
use Rattle.sketch.specs.Figures.{key_cell}
use Rattle.sketch.specs.Refusals.{key_fits, world}
use Rattle.sketch.specs.Lost.{item_loss, move_loss, NoneAtTop}
use Rattle.sketch.specs.Workers.{Ready}
use Rattle.sketch.proofs.AddressLaws.{key_rows, key_column}
use Rattle.sketch.proofs.GridLaws.{Holding, Fits, cell_length, fits_cell, insert_each_length, cross_each_cell, cross_each_length}
use Rattle.sketch.proofs.KeyLaws.{key_cells_below, inserted_or_kept}
use Rattle.sketch.proofs.WorldLaws.{fits_key}
use Rattle.sketch.proofs.ItemLoss.{each_lost}

-- A WORLD with accepted settings, and room for its cells
pub record Set (w : World) : Type 0 where
  pub fit : Fits w.sketch
  pub room : Holding w.sketch w.grid
  pub rows_low : 1 ≤ w.sketch.rows
  pub cols_low : 2 ≤ w.sketch.cols

pub set_of : (k : MicroCm) (g : List ℕ) → Ready k (length g) → Set (world k g)
set_of k g r = record { fit = r.fit; room = omega (arith, r.size_is); rows_low = r.rows_low; cols_low = r.cols_low }

module _ (w : World) (h : Set w) where
  abbrev k : MicroCm
  k = w.sketch

  abbrev t : ℕ
  t = k.params.t

  abbrev c : ℕ
  c = k.params.c

  abbrev g : List ℕ
  g = w.grid

  -- there is a cell
  pub some : cells_of k ≡ suc (cells_of k - 1)
  some = let p : 0 < k.rows * k.cols = mul-pos h.rows_low (omega (arith, h.cols_low)) in omega arith

  pub inside : (j : ℕ) → j ≤ cells_of k - 1 → j < cells_of k
  inside j l = omega (arith, some)

  pub cell_fit : (j : ℕ) → j < cells_of k → Fit t c (length (cell_of k g j))
  cell_fit j l = fits_cell k h.fit (cell_of k g j) (cell_length k g j h.room l)

  -- A MOVE
  module _ (clock : SubWindowClock) where
    abbrev crosses : ℕ → ℕ
    crosses j = (cross_cell k (n_of clock) (begins w clock) j (cell_of k g j) (state_at w clock j)).lost

    crossed_lost : (j : ℕ) → j < cells_of k
        → crosses j ≡ one_if (loses_closing t c (n_of clock) (begins w clock) (cell_of k g j) (state_at w clock j))
    crossed_lost j l = cross_lost t c (n_of clock) (begins w clock) (cell_of k g j) (state_at w clock j) (cell_fit j l)

    cross_each_lost : (cross_each k (n_of clock) (begins w clock) g k.rounding.state).lost ≡ move_loss w clock
    unfolding cross_each
    cross_each_lost =
        let f = cross_cell k (n_of clock) (begins w clock) in
        ap (λ (m : ℕ). (each_of f (depth_of t) 0 m g k.rounding.state).lost) some
        ∙ pieces.each_lost f (depth_of t) (cells_of k - 1) 0 g k.rounding.state
        ∙ total_same (cells_of k - 1) _ _ (λ j l. crossed_lost j (inside j l))

    pub moved_lost : (moved clock w).lost ≡ w.lost + move_loss w clock
    unfolding moved
    moved_lost = ap (λ (n : ℕ). w.lost + n) cross_each_lost

    -- cells whose shutters are empty where they are at max_zoom
    pub empty_moves : ((j : ℕ) → j < cells_of k → EmptyAtTop t c (cell_of k g j)) → move_loss w clock ≡ 0
    empty_moves empty =
        total_none (cells_of k - 1) _
        (λ j l. sym (crossed_lost j (inside j l))
        ∙ empty_closing t c (cell_of k g j) (state_at w clock j) (cell_fit j (inside j l)) (n_of clock) (begins w clock) (empty j (inside j l)))

    pub moved_empty : NoneAtTop k g → (j : ℕ) → j < cells_of k → EmptyAtTop t c (cell_of k (moved clock w).grid j)
    unfolding moved
    moved_empty low j l =
        rw (cross_each_cell k h.fit (n_of clock) (begins w clock) g k.rounding.state h.room j l)
        (cross_empties t c (cell_of k g j) (state_at w clock j) (cell_fit j l) (n_of clock) (begins w clock) (low j l))

    pub moved_set : Set (moved clock w)
    unfolding moved
    moved_set = record {
      fit = h.fit;
      room = rw (cross_each_length k h.fit (n_of clock) (begins w clock) g k.rounding.state h.room) h.room;
      rows_low = h.rows_low;
      cols_low = h.cols_low;
    }

  pub below_empty : NoneAtTop k g → (j : ℕ) → j < cells_of k → EmptyAtTop t c (cell_of k g j)
  below_empty low j l top = absurd (omega (arith, low j l))

  -- A RECORDING
  module _ (key : List ℕ) (fits : key_fits k key ≡ true) where
    abbrev n : ℕ
    n = n_of k.clock

    pub recorded_lost : (recorded key w).lost ≡ w.lost + item_loss w key
    unfolding recorded
    recorded_lost =
        ap (λ (m : ℕ). w.lost + m)
        (each_lost k h.fit n key g k.rounding.state (fits_key k key fits) (key_rows k key fits) h.rows_low h.room)

    key_inside : (row : ℕ) → row ≤ k.rows - 1 → key_cell k key row < cells_of k
    key_inside row l =
        let r : row < k.rows = omega (arith, h.rows_low) in
        digits_lt r (key_column k key fits row r)

    pub empty_records : ((j : ℕ) → j < cells_of k → EmptyAtTop t c (cell_of k g j)) → item_loss w key ≡ 0
    empty_records empty =
        total_none (k.rows - 1) _
        (λ row l. let j = key_cell k key row in
        empty_item t c (cell_of k g j) k.rounding.state (cell_fit j (key_inside row l)) n (empty j (key_inside row l)))

    -- every cell stands in a row and a column
    pub recorded_empty : NoneAtTop k g → (j : ℕ) → j < cells_of k → EmptyAtTop t c (cell_of k (recorded key w).grid j)
    unfolding recorded
    recorded_empty low j l =
        let cols : 0 < k.cols = omega (arith, h.cols_low) in
        let row = j / k.cols in
        let col = j % k.cols in
        let place : cell_index k row col ≡ j = div-add-mod' j k.cols in
        let in_rows : row < k.rows = (div-lt_iff_lt-mul cols).1 l in
        rw (← place)
        (inserted_or_kept k h.fit n key g k.rounding.state (fits_key k key fits) (key_rows k key fits) h.room row col in_rows (mod-lt j cols)
        (EmptyAtTop t c)
        (λ e τ. insert_empties t c (cell_of k g (cell_index k row col)) τ (cell_fit (cell_index k row col) (rw place l)) n (low (cell_index k row col) (rw place l)))
        (λ ne. below_empty low (cell_index k row col) (rw place l)))

    pub recorded_set : Set (recorded key w)
    unfolding recorded
    recorded_set = record {
      fit = h.fit;
      room = rw (insert_each_length k h.fit n (key_cells k 0 key) g k.rounding.state (key_cells_below k 0 key (fits_key k key fits)) h.room) h.room;
      rows_low = h.rows_low;
      cols_low = h.cols_low;
    }
