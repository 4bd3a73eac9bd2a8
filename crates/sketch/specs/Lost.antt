-- Document 02, T-04, of a sketch: what a call tells as lost is what its cells lose, added up.
use Rattle.std.specs.Prelude.{ℕ, ◌+◌, ◌-◌, ◌<◌, ◌≡◌, false, List}
use Rattle.laws.specs.Sums.{total}
use Rattle.laws.specs.Passes.{each_of}
use Rattle.refusal.specs.declared.Verdict.TheVariants.{Accepted}
use Rattle.refusal.specs.Refusals.{is_accepted}
use Rattle.cell.specs.declared.MicroParams.{MicroParams}
use Rattle.cell.specs.Cell.{depth_of, zoom_of, max_zoom}
use Rattle.cell.specs.Merge.{merge_of}
use Rattle.cell.specs.Lost.{loses_item, loses_closing, one_if}
use Rattle.clock.specs.declared.SubWindowClock.{SubWindowClock}
use Rattle.clock.specs.Clock.{n_of, tick_of, advance_of}
use Rattle.sketch.specs.declared.MicroCm.{MicroCm}
use Rattle.sketch.specs.Sketch.{cells_of, cell_of, World, recorded, begins, state_at, advanced}
use Rattle.sketch.specs.Figures.{key_cell}
use Rattle.sketch.specs.Merge.{merge_cell}
use Rattle.sketch.specs.Refusals.{SketchOutcome, world, fresh_call, update_call, update_at_call, advance_call, merge_call}

-- AN ITEM costs a unit in each of the key's cells that loses it
abbrev pub item_loss : World → List ℕ → ℕ
item_loss w key =
    let k = w.sketch in
    total (k.rows - 1) (λ row. one_if (loses_item k.params.t k.params.c (n_of k.clock) (cell_of k w.grid (key_cell k key row))))

-- A MOVE to another clock costs a unit in each cell that loses it by closing its shutter
abbrev pub move_loss : World → SubWindowClock → ℕ
move_loss w clock =
    let k = w.sketch in
    total (cells_of k - 1)
    (λ j. one_if (loses_closing k.params.t k.params.c (n_of clock) (begins w clock) (cell_of k w.grid j) (state_at w clock j)))

-- A MERGE costs what is cut off in each cell, which draws from the state that the cells before it left
abbrev pub merge_state_at : MicroCm → List ℕ → List ℕ → ℕ → ℕ
merge_state_at k g g' j = (each_of (merge_cell k (n_of k.clock) g') (depth_of k.params.t) 0 j g k.rounding.state).state

abbrev pub merge_loss : MicroCm → List ℕ → List ℕ → ℕ
merge_loss k g g' =
    total (cells_of k - 1)
    (λ j. (merge_of k.params.t k.params.c (n_of k.clock) (cell_of k g j) (cell_of k g' j) (merge_state_at k g g' j)).lost)

-- no cell of the grid is at max_zoom
abbrev pub NoneAtTop : MicroCm → List ℕ → Type 0
NoneAtTop k g = (j : ℕ) → j < cells_of k → zoom_of k.params.t (cell_of k g j) < max_zoom k.params.c

abbrev pub Loses : SketchOutcome → ℕ → Type 0
Loses o lost = o.answer.lost ≡ lost

-- a call that is refused loses nothing
abbrev pub RefusedLoses : SketchOutcome → Type 0
RefusedLoses o = is_accepted o.answer.verdict ≡ false → Loses o 0

-- WHAT A CALL LOSES, whatever the seed
pub record GridLostMeaning : Type 0 where
  -- `update` records its item, and then the cells cross; in `update_at` they cross first
  pub update : (k : MicroCm) (key g : List ℕ) → (update_call k key g).answer.verdict ≡ Accepted
      → Loses (update_call k key g) (item_loss (world k g) key + move_loss (recorded key (world k g)) (tick_of k.clock))
  pub update_at : (k : MicroCm) (key : List ℕ) (reading : ℕ) (g : List ℕ) → (update_at_call k key reading g).answer.verdict ≡ Accepted
      → Loses (update_at_call k key reading g)
      (move_loss (world k g) (advance_of k.clock reading) + item_loss (advanced reading (world k g)) key)
  pub advance : (k : MicroCm) (reading : ℕ) (g : List ℕ) → (advance_call k reading g).answer.verdict ≡ Accepted
      → Loses (advance_call k reading g) (move_loss (world k g) (advance_of k.clock reading))
  pub merge : (k : MicroCm) (g : List ℕ) (k' : MicroCm) (g' : List ℕ) → (merge_call k g k' g').answer.verdict ≡ Accepted
      → Loses (merge_call k g k' g') (merge_loss k g g')
  -- where no cell is at max_zoom as the call begins, it loses nothing; a merge, where none is as it ends
  pub update_below_top : (k : MicroCm) (key g : List ℕ) → (update_call k key g).answer.verdict ≡ Accepted → NoneAtTop k g → Loses (update_call k key g) 0
  pub update_at_below_top : (k : MicroCm) (key : List ℕ) (reading : ℕ) (g : List ℕ) → (update_at_call k key reading g).answer.verdict ≡ Accepted
      → NoneAtTop k g → Loses (update_at_call k key reading g) 0
  pub advance_below_top : (k : MicroCm) (reading : ℕ) (g : List ℕ) → (advance_call k reading g).answer.verdict ≡ Accepted → NoneAtTop k g
      → Loses (advance_call k reading g) 0
  pub merge_below_top : (k : MicroCm) (g : List ℕ) (k' : MicroCm) (g' : List ℕ) → (merge_call k g k' g').answer.verdict ≡ Accepted
      → NoneAtTop k (merge_call k g k' g').grid → Loses (merge_call k g k' g') 0
  -- refused, or a fresh start
  pub refused_update : (k : MicroCm) (key g : List ℕ) → RefusedLoses (update_call k key g)
  pub refused_update_at : (k : MicroCm) (key : List ℕ) (reading : ℕ) (g : List ℕ) → RefusedLoses (update_at_call k key reading g)
  pub refused_advance : (k : MicroCm) (reading : ℕ) (g : List ℕ) → RefusedLoses (advance_call k reading g)
  pub refused_merge : (k : MicroCm) (g : List ℕ) (k' : MicroCm) (g' : List ℕ) → RefusedLoses (merge_call k g k' g')
  pub fresh : (rows cols : ℕ) (p : MicroParams) (clock : SubWindowClock) (seed : ℕ) (g : List ℕ) → Loses (fresh_call rows cols p clock seed g) 0
