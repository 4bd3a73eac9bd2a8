-- Document 02, T-11, of every cell of a grid: in the calls that move the clock each cell crosses as one cell does.
use Rattle.std.specs.Prelude.{ℕ, ◌≤◌, ◌<◌, ◌≡◌, List, get_or}
use Rattle.laws.specs.Steps.{still}
use Rattle.refusal.specs.declared.Verdict.TheVariants.{Accepted}
use Rattle.cell.specs.ZoomIn.{CrossesTo}
use Rattle.clock.specs.declared.SubWindowClock.{SubWindowClock}
use Rattle.clock.specs.Clock.{n_of, tick_of, advance_of}
use Rattle.sketch.specs.declared.MicroCm.{MicroCm}
use Rattle.sketch.specs.Sketch.{cells_of, cell_of, World, goes_on, recorded, moved, begins, state_at, advanced}
use Rattle.sketch.specs.Refusals.{world, update_call, update_at_call, advance_call}

-- EVERY CELL crosses in a move to this clock, which leaves this grid
abbrev pub CrossesEach : World → SubWindowClock → List ℕ → Type 0
CrossesEach w clock after =
    let k = w.sketch in
    (j : ℕ) → j < cells_of k
    → CrossesTo k.params.t k.params.c (n_of clock) (begins w clock) (cell_of k w.grid j) (state_at w clock j) (cell_of k after j)

-- HOW FAR EACH CELL ZOOMS IN, in every call that is accepted, whatever the seed; the grid's bytes are bytes
pub record GridZoomInMeaning : Type 0 where
  pub advance : (k : MicroCm) (reading : ℕ) (g : List ℕ) → ((i : ℕ) → get_or g i 0 ≤ 255) → (advance_call k reading g).answer.verdict ≡ Accepted
      → CrossesEach (world k g) (advance_of k.clock reading) (advance_call k reading g).grid
  -- `update` records its item, and then the cells cross
  pub update : (k : MicroCm) (key g : List ℕ) → ((i : ℕ) → get_or g i 0 ≤ 255) → (update_call k key g).answer.verdict ≡ Accepted
      → CrossesEach (recorded key (world k g)) (tick_of k.clock) (update_call k key g).grid
  -- in `update_at` the cells cross, and then the item is recorded
  pub update_at : (k : MicroCm) (key : List ℕ) (reading : ℕ) (g : List ℕ) → ((i : ℕ) → get_or g i 0 ≤ 255)
      → (update_at_call k key reading g).answer.verdict ≡ Accepted
      → CrossesEach (world k g) (advance_of k.clock reading) (advanced reading (world k g)).grid
      × ((update_at_call k key reading g).grid ≡ (recorded key (advanced reading (world k g))).grid)
  -- a move in which no sub-window begins changes no byte and draws nothing
  pub nothing : (w : World) (clock : SubWindowClock) → begins w clock ≡ 0 → moved clock w ≡ goes_on w clock (still w.grid w.sketch.rounding.state)
