-- A crossing of the grid is that of each cell, and an item that was recorded before it leaves bytes: so each cell zooms in as one cell does. Assumes nothing.
use Prim.Native.Nat.{ℕ, ◌*◌, ◌≤◌, ◌<◌}
use mathlib.Core.Path.{◌≡◌, refl}
use mathlib.Core.Bool.{true, not}
use mathlib.Core.List.{List}
use lib.ListN.{drop, get_or}
use borrow.Author.Tests.{not-false}
use native.Mathlib.Omega.{arith}
use Rattle.laws.specs.Steps.{still}
use Rattle.laws.proofs.SmallLaws.{Small, small_take, small_drop}
use Rattle.refusal.specs.declared.Verdict.{Verdict}
use Rattle.refusal.specs.declared.Verdict.TheVariants.{Accepted}
use Rattle.refusal.proofs.VerdictLaws.{not_refused}
use Rattle.refusal.proofs.GateLaws.{gate_passed}
use Rattle.cell.specs.Cell.{depth_of}
use Rattle.cell.proofs.InsertionLaws.{inserted}
use Rattle.cell.proofs.ZoomInLaws.{crosses_to}
use Rattle.clock.specs.declared.SubWindowClock.{SubWindowClock}
use Rattle.clock.specs.Clock.{n_of, tick_of, advance_of}
use Rattle.sketch.specs.declared.MicroCm.{MicroCm}
use Rattle.sketch.specs.Sketch.{cells_of, cell_of, key_cells, World, goes_on, recorded, moved, begins, advanced}
use Rattle.sketch.specs.Refusals.{all_below, key_fits, refuse_key, refuse_sketch, world, update_call, update_at_call, advance_call}
use Rattle.sketch.specs.ZoomIn.{CrossesEach, GridZoomInMeaning}
use Rattle.sketch.proofs.SketchGates.{sketch_gate}
use Rattle.sketch.proofs.ReadyLaws.{ready_of}
use Rattle.sketch.proofs.KeyLaws.{key_cells_below}
use Rattle.sketch.proofs.GridLaws.{Holding, Fits, cell_length, fits_cell, insert_each_length, insert_each_keeps, cross_each_cell, cross_none}
use Rattle.sketch.proofs.WorldLaws.{fits_key}

-- every cell's bytes are bytes
abbrev SmallCells : MicroCm → List ℕ → Type 0
SmallCells k g = (j : ℕ) → j < cells_of k → Small (cell_of k g j)

small_cells : (k : MicroCm) (g : List ℕ) → ((i : ℕ) → get_or g i 0 ≤ 255) → SmallCells k g
small_cells k g low j l =
    let d = depth_of k.params.t in
    small_take d (drop (j * d) g) (small_drop (j * d) g (λ i. omega (arith, low i)))

-- A MOVE
module _ (w : World) (clock : SubWindowClock) (fit : Fits w.sketch) (room : Holding w.sketch w.grid) (small : SmallCells w.sketch w.grid) where
  pub moved_crosses : CrossesEach w clock (moved clock w).grid
  unfolding moved
  moved_crosses j l =
      let k = w.sketch in
      rw (cross_each_cell k fit (n_of clock) (begins w clock) w.grid k.rounding.state room j l)
      (crosses_to k.params.t k.params.c (n_of clock) (begins w clock) (cell_of k w.grid j) _
      (fits_cell k fit (cell_of k w.grid j) (cell_length k w.grid j room l)) (small j l))

-- THE CALLS, where a sketch with its grid, and then perhaps a key, were accepted
module _ (k : MicroCm) (g : List ℕ) (low : (i : ℕ) → get_or g i 0 ≤ 255) (rest : Verdict) (e : refuse_sketch k g rest ≡ Accepted) where
  judged : (refuse_sketch k g Accepted ≡ Accepted) × (rest ≡ Accepted)
  judged = gate_passed (refuse_sketch k g) (sketch_gate k g) rest e

  fits : Fits k
  fits = (ready_of k g judged.0).fit

  room : Holding k g
  room = omega (arith, (ready_of k g judged.0).size_is)

  found_crosses : (clock : SubWindowClock) → CrossesEach (world k g) clock (moved clock (world k g)).grid
  found_crosses clock = moved_crosses (world k g) clock fits room (small_cells k g low)

  -- after an item
  module _ (key : List ℕ) (fitting : key_fits k key ≡ true) where
    abbrev item : World
    item = recorded key (world k g)

    below : all_below (cells_of k) (key_cells k 0 key) ≡ true
    below = key_cells_below k 0 key (fits_key k key fitting)

    item_room : Holding k item.grid
    unfolding recorded
    item_room = rw (insert_each_length k fits (n_of k.clock) (key_cells k 0 key) g k.rounding.state below room) room

    item_small : SmallCells k item.grid
    unfolding recorded
    item_small =
        insert_each_keeps k fits (n_of k.clock) Small
        (λ b τ e. (inserted k.params.t k.params.c (n_of k.clock) b τ (fits_cell k fits b e)).kept.small)
        (key_cells k 0 key) g k.rounding.state below room (small_cells k g low)

    item_crosses : (clock : SubWindowClock) → CrossesEach item clock (moved clock item).grid
    unfolding recorded
    item_crosses clock = moved_crosses item clock fits item_room item_small

-- a key that was accepted
pub key_accepted : (k : MicroCm) (key : List ℕ) (rest : Verdict) → refuse_key k key rest ≡ Accepted → key_fits k key ≡ true
key_accepted k key rest e = not-false _ (not_refused 7 (not (key_fits k key)) rest e).0

advance_crosses : (k : MicroCm) (reading : ℕ) (g : List ℕ) → ((i : ℕ) → get_or g i 0 ≤ 255) → (advance_call k reading g).answer.verdict ≡ Accepted
    → CrossesEach (world k g) (advance_of k.clock reading) (advance_call k reading g).grid
unfolding advance_call
advance_crosses k reading g low e j l = rw e (found_crosses k g low _ e (advance_of k.clock reading) j l)

update_crosses : (k : MicroCm) (key g : List ℕ) → ((i : ℕ) → get_or g i 0 ≤ 255) → (update_call k key g).answer.verdict ≡ Accepted
    → CrossesEach (recorded key (world k g)) (tick_of k.clock) (update_call k key g).grid
unfolding update_call
update_crosses k key g low e j l =
    rw e (item_crosses k g low _ e key (key_accepted k key _ (judged k g low _ e).1) (tick_of k.clock) j l)

update_at_crosses : (k : MicroCm) (key : List ℕ) (reading : ℕ) (g : List ℕ) → ((i : ℕ) → get_or g i 0 ≤ 255)
    → (update_at_call k key reading g).answer.verdict ≡ Accepted
    → CrossesEach (world k g) (advance_of k.clock reading) (advanced reading (world k g)).grid
    × ((update_at_call k key reading g).grid ≡ (recorded key (advanced reading (world k g))).grid)
unfolding update_at_call
update_at_crosses k key reading g low e = (found_crosses k g low _ e (advance_of k.clock reading), rw e refl)

nothing : (w : World) (clock : SubWindowClock) → begins w clock ≡ 0 → moved clock w ≡ goes_on w clock (still w.grid w.sketch.rounding.state)
unfolding moved
nothing w clock e = rw (e, cross_none w.sketch (n_of clock) w.grid w.sketch.rounding.state) refl

pub grid_zoom_in_says : GridZoomInMeaning
grid_zoom_in_says = record { advance = advance_crosses; update = update_crosses; update_at = update_at_crosses; nothing = nothing }
