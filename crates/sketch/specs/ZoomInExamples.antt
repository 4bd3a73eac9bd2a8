-- Document 02, T-11, worked by hand on a grid: one row of two cells with t = 1 and c = 2 (pixels, Z, s).
use Rattle.std.specs.Prelude.{ℕ, ◌≡◌, List, [], ◌∷◌, ◌++◌}
use Rattle.cell.specs.BenchSheet.{cell_with}
use Rattle.clock.specs.declared.SubWindowClock.{SubWindowClock}
use Rattle.clock.specs.declared.SubWindowClock.TheVariants.{CountBased, TimeBased}
use Rattle.sketch.specs.declared.MicroCm.{MicroCm}
use Rattle.sketch.specs.Sketch.{recorded, inside_at}
use Rattle.sketch.specs.Refusals.{world, update_call, advance_call}

abbrev pub with_clock : SubWindowClock → ℕ → MicroCm
with_clock clock state = record { rows = 1; cols = 2; params = record { t = 1; c = 2 }; clock = clock; rounding = record { state = state } }

-- sub-windows that are 1 long: n is the reading, or as many items as were seen
abbrev pub timed : ℕ → SubWindowClock
timed n = TimeBased 1 0 n

abbrev pub counted : ℕ → SubWindowClock
counted n = CountBased 1 n

abbrev pub two_shutters : List ℕ
two_shutters = cell_with 0 0 0 1 1 ++ cell_with 0 0 0 1 1

abbrev pub two_held_back : List ℕ
two_held_back = cell_with 1 9 200 1 0 ++ cell_with 40 9 200 3 0

abbrev pub one_short : List ℕ
one_short = cell_with 127 0 0 1 1 ++ cell_with 0 0 0 0 0

pub record GridZoomInWorked : Type 0 where
  -- each cell draws from the state that the one before it left: from 16 the first shutter closes to 1, from there the second to 0
  pub one_after_another : (inside_at (world (with_clock (timed 0) 16) two_shutters) (timed 1) 0 ≡ cell_with 1 0 0 1 0)
      × (inside_at (world (with_clock (timed 0) 16) two_shutters) (timed 1) 1 ≡ cell_with 0 0 0 1 0)
      × ((advance_call (with_clock (timed 0) 16) 1 two_shutters).grid ≡ cell_with 2 0 0 0 0 ++ cell_with 0 0 0 0 0)
  -- two sub-windows begin, and the 200 that held both back is cleared: the first zooms in by 1, the second by 2, each by its own largest pixel
  pub by_two : (inside_at (world (with_clock (timed 0) 1) two_held_back) (timed 2) 1 ≡ cell_with 40 0 0 3 0)
      × ((advance_call (with_clock (timed 0) 1) 2 two_held_back).grid ≡ cell_with 2 0 0 0 0 ++ cell_with 160 0 0 1 0)
  -- the item of an `update` comes first: 127 and a shutter that it fills make 128, which is too much to zoom in
  pub item_first : (inside_at (recorded (0 ∷ []) (world (with_clock (counted 0) 1) one_short)) (counted 1) 0 ≡ cell_with 128 0 0 1 0)
      × ((update_call (with_clock (counted 0) 1) (0 ∷ []) one_short).grid ≡ cell_with 128 0 0 1 0 ++ cell_with 0 0 0 0 0)
