-- What a stage of the whole grid does to one cell: an insertion or nothing, or a crossing, each from some random state.
use Prim.Native.Nat.{ℕ, ◌≤◌, ◌<◌, max}
use mathlib.Core.Path.{◌≡◌}
use mathlib.Core.Bool.{true}
use mathlib.Core.List.{List}
use lib.Dec.{eqb}
use lib.Arith.{digits_lt}
use lib.ListN.{length, get_or}
use native.Mathlib.Omega.{arith}
use borrow.Author.Tests.{ne_eqb}
use Rattle.laws.specs.Passes.{each_of}
use Rattle.laws.proofs.ChoiceLaws.{either}
use Rattle.cell.specs.Cell.{depth_of, zoom_of, max_zoom}
use Rattle.cell.specs.Crossing.{inside_of}
use Rattle.cell.specs.Insertion.{insert_of}
use Rattle.cell.specs.Workers.{Fit}
use Rattle.cell.proofs.CrossingLaws.{inside_quiet}
use Rattle.clock.specs.declared.SubWindowClock.{SubWindowClock}
use Rattle.clock.specs.Clock.{n_of, crossed_of}
use Rattle.sketch.specs.declared.MicroCm.{MicroCm}
use Rattle.sketch.specs.Sketch.{cells_of, cell_index, cell_of, cross_cell, World, recorded, moved}
use Rattle.sketch.specs.Refusals.{key_fits}
use Rattle.sketch.proofs.GridLaws.{Holding, Fits, fits_cell, cell_length, cross_each_cell}
use Rattle.sketch.proofs.KeyLaws.{inserted_or_kept}
use Rattle.sketch.proofs.WorldLaws.{GoodWorld, good_room, fits_key}
use Rattle.sketch.proofs.AddressLaws.{key_rows}
use Rattle.band.specs.Stages.{Stage, recording, moving, done}
use Rattle.band.specs.Tally.{Tally, counted, marked}
use Rattle.band.specs.Peak.{zoom_now, zoom_inside}
use Rattle.band.proofs.TallyLaws.{counted_hit, counted_miss}
use Rattle.band.proofs.CellHistory.{Holds, insert_rises, insert_holds}
use Rattle.band.proofs.CrossingHistory.{cross_to}
use Rattle.band.proofs.Reached.{Right}

-- a cell of a good world
pub record Placed (row col : ℕ) (w : World) : Type 0 where
  pub fits : Fits w.sketch
  pub good : GoodWorld w
  pub in_rows : row < w.sketch.rows
  pub in_cols : col < w.sketch.cols

module _ (row col : ℕ) (w : World) (p : Placed row col w) where
  abbrev k : MicroCm
  k = w.sketch

  abbrev t : ℕ
  t = k.params.t

  abbrev c : ℕ
  c = k.params.c

  abbrev n : ℕ
  n = n_of k.clock

  abbrev j : ℕ
  j = cell_index k row col

  abbrev cell : List ℕ → List ℕ
  cell g = cell_of k g j

  in_grid : j < cells_of k
  in_grid = digits_lt p.in_rows p.in_cols

  room : Holding k w.grid
  room = good_room k w.grid k.rounding.state p.good

  fit : Fit t c (length (cell w.grid))
  fit = fits_cell k p.fits (cell w.grid) (cell_length k w.grid j room in_grid)

  -- MOVE
  module _ (clock : SubWindowClock) where
    abbrev crossed : ℕ
    crossed = crossed_of k.clock clock

    -- the state that the cells before it left
    abbrev τ : ℕ
    τ = (each_of (cross_cell k (n_of clock) crossed) (depth_of t) 0 j w.grid k.rounding.state).state

    moved_holds : {M : ℕ} {x : ℕ → ℕ} → M < max_zoom c → n ≤ n_of clock → Holds t c M n x (cell w.grid) → zoom_inside w (moving clock) j ≤ M
        → Holds t c M (n_of clock) x (cell (moved clock w).grid)
    unfolding moved zoom_inside
    moved_holds top later h z =
        rw (cross_each_cell k p.fits (n_of clock) crossed w.grid k.rounding.state room j in_grid)
        (cross_to top h crossed τ (n_of clock) (omega arith) (λ ne. rw (ne_eqb crossed 0 ne) at z))

    -- the zoom before a crossing is at most the one inside it
    moved_rises : zoom_now w j ≤ zoom_inside w (moving clock) j
    unfolding zoom_inside zoom_now
    moved_rises =
        let b = cell w.grid in
        either (λ z. zoom_of t b ≤ z) (eqb crossed 0) (zoom_of t b) (zoom_of t (inside_of t c (n_of clock) crossed b τ).bytes) (λ e. omega arith)
        (λ e. (inside_quiet t c (n_of clock) crossed b τ fit).zoom_ge)

  -- RECORD
  module _ (key : List ℕ) (fits : key_fits k key ≡ true) where
    inside : row < length key
    inside = rw (key_rows k key fits) p.in_rows

    -- the cell is inserted into if the key has its column, and stays if not
    inserted_or_not : (F : List ℕ → Type 0) → (get_or key row 0 ≡ col → (σ : ℕ) → F (insert_of t c n (cell w.grid) σ).bytes)
        → ((get_or key row 0 ≡ col → ⊥) → F (cell w.grid)) → F (cell (recorded key w).grid)
    unfolding recorded
    inserted_or_not =
        inserted_or_kept k p.fits n key w.grid k.rounding.state (fits_key k key fits) (key_rows k key fits) room row col p.in_rows p.in_cols

    recorded_holds : {M : ℕ} (items : ℕ → ℕ → ℕ → ℕ) → M < max_zoom c → Holds t c M n (items row col) (cell w.grid) → zoom_now (recorded key w) j ≤ M
        → Holds t c M n (counted n key items row col) (cell (recorded key w).grid)
    unfolding zoom_now recorded
    recorded_holds {M} items top h =
        inserted_or_not (λ b. zoom_of t b ≤ M → Holds t c M n (counted n key items row col) b)
        (λ e σ. insert_holds top h (counted_hit n key items row col inside e) σ) (λ ne z. rw (counted_miss n key items row col inside ne) h)

    recorded_rises : zoom_now w j ≤ zoom_now (recorded key w) j
    unfolding zoom_now recorded
    recorded_rises = inserted_or_not (λ b. zoom_of t (cell w.grid) ≤ zoom_of t b) (λ e σ. insert_rises t c n (cell w.grid) σ fit) (λ ne. omega arith)

-- WHAT THE CELL at a place holds of a history
abbrev pub HoldsAt : ℕ → ℕ → (ℕ → ℕ) → World → Type 0
HoldsAt M j x w = Holds w.sketch.params.t w.sketch.params.c M (n_of w.sketch.clock) x (cell_of w.sketch w.grid j)

module _ (row col : ℕ) (w : World) (p : Placed row col w) where
  -- A STAGE keeps it, if the zoom stays at most M inside the stage and after it
  pub stage_holds : {M : ℕ} → M < max_zoom w.sketch.params.c → (T : Tally) → w.sketch.clock ≡ T.clock → (stage : Stage) → Right w stage
      → (let j = cell_index w.sketch row col in HoldsAt M j (T.items row col) w → zoom_inside w stage j ≤ M → zoom_now (done stage w) j ≤ M
      → HoldsAt M j ((marked T stage).items row col) (done stage w))
  unfolding recorded moved
  stage_holds top T e (recording key) right h inside after = rw (← e) (recorded_holds row col w p key right T.items top h after)
  stage_holds top T e (moving clock) right h inside after = moved_holds row col w p clock top right.grows h inside

  -- and before it the zoom is no higher than inside it or after it
  pub stage_rises : (stage : Stage) → Right w stage
      → (let j = cell_index w.sketch row col in zoom_now w j ≤ max (zoom_inside w stage j) (zoom_now (done stage w) j))
  stage_rises (recording key) right = omega (arith, recorded_rises row col w p key right)
  stage_rises (moving clock) right = omega (arith, moved_rises row col w p clock)
