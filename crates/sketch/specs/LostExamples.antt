-- Document 02, T-04, worked by hand on grids: cells with t = 1 and c = 2, whose max_zoom is 31 (pixels, Z, s).
use Rattle.std.specs.Prelude.{ℕ, ◌-◌, ◌^◌, ◌≡◌, List, [], ◌∷◌, ◌++◌}
use Rattle.refusal.specs.declared.Verdict.TheVariants.{Unsound}
use Rattle.cell.specs.BenchSheet.{cell_with}
use Rattle.clock.specs.declared.SubWindowClock.TheVariants.{CountBased}
use Rattle.sketch.specs.declared.MicroCm.{MicroCm}
use Rattle.sketch.specs.Refusals.{SketchOutcome, update_call, update_at_call, advance_call, merge_call}
use Rattle.sketch.specs.ZoomInExamples.{with_clock, timed, counted}

-- two rows of two columns, with a clock on which no sub-window begins yet
abbrev pub two_rows : MicroCm
two_rows = record { rows = 2; cols = 2; params = record { t = 1; c = 2 }; clock = CountBased 9 0; rounding = record { state = 2 } }

-- the next item makes a whole unit: for a full pixel, and for one with room
abbrev pub full : List ℕ
full = cell_with 255 0 0 31 (2 ^ 31 - 1)

abbrev pub roomy : List ℕ
roomy = cell_with 254 0 0 31 (2 ^ 31 - 1)

abbrev pub fresh : List ℕ
fresh = cell_with 0 0 0 0 0

abbrev pub both_full : List ℕ
both_full = full ++ fresh ++ (full ++ fresh)

abbrev pub one_full : List ℕ
one_full = roomy ++ fresh ++ (full ++ fresh)

abbrev pub two_full : List ℕ
two_full = full ++ full

-- what a call draws and loses
abbrev pub Told : SketchOutcome → ℕ → ℕ → Type 0
Told o draws lost = (o.answer.draws ≡ draws) × (o.answer.lost ≡ lost)

pub record GridLostWorked : Type 0 where
  -- one for each of the key's cells that loses, and not one for all
  pub in_both_rows : Told (update_call two_rows (0 ∷ 0 ∷ []) both_full) 0 2
  pub in_one_row : Told (update_call two_rows (0 ∷ 0 ∷ []) one_full) 0 1
  -- no other cell counts
  pub elsewhere : Told (update_call two_rows (1 ∷ 1 ∷ []) both_full) 0 0
  -- `update`: the item is lost in the first cell, and then the crossing closes the second cell's shutter up into its full pixel, by one draw
  pub item_and_crossing : Told (update_call (with_clock (counted 0) 2) (0 ∷ []) two_full) 1 2
  -- an advance closes both shutters up; an item behind it finds a new pixel, and an empty shutter
  pub both_close : Told (advance_call (with_clock (timed 0) 2) 1 two_full) 2 2
  pub crossing_and_item : Told (update_at_call (with_clock (timed 0) 2) (0 ∷ []) 1 two_full) 2 2
  -- within the sub-window the item alone, and a far jump nothing
  pub item_alone : Told (update_at_call (with_clock (timed 0) 2) (0 ∷ []) 0 two_full) 0 1
  pub far : Told (advance_call (with_clock (timed 0) 2) 3 two_full) 0 0
  -- a merge: 255 of one cell, and 255 and 145 of the other, over all pixels
  pub over_all_cells : let g = cell_with 255 0 0 31 0 ++ cell_with 255 200 0 31 0 in
      Told (merge_call (with_clock (timed 0) 2) g (with_clock (timed 0) 3) g) 0 655
  -- refused, for a cell of zoom 32, nothing is lost
  pub refused : let o = update_call (with_clock (counted 0) 2) (0 ∷ []) (full ++ cell_with 0 0 0 32 0) in
      (o.answer.verdict ≡ Unsound 1) × Told o 0 0
