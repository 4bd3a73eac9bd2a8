-- The theorem is not empty: lists of calls that zoom, with their figures computed, and the bound met exactly.
use Prim.Native.Nat.{ℕ, ◌+◌, ◌≤◌, ◌<◌, max}
use mathlib.Core.Path.{◌≡◌, refl, ap}
use mathlib.Core.List.{List, [], ◌∷◌, ◌++◌}
use native.Mathlib.Omega.{arith}
use lib.ListN.{replicate}
use lib.Dec.{lit<}
use Rattle.laws.specs.Within.{Within}
use Rattle.laws.specs.Powers.{highest}
use Rattle.laws.specs.Bytes.{number_of, bytes_of}
use Rattle.laws.specs.Passes.{each_of}
use Rattle.laws.specs.Sums.{least, largest, total}
use Rattle.rounding.specs.Draws.{seeded, xor_down, xor_up, next_state, yielded, rounded_div}
use Rattle.cell.specs.Cell.{shutter_of, with_shutter, max_zoom, sound_of}
use Rattle.cell.specs.Insertion.{divide_each, zoom_out_of, credit_of, insert_of}
use Rattle.cell.specs.Crossing.{close_of, clear_of, emptied, inside_of, ceiling_of, all_at_most, times_each, zoomed_in, zoom_in_from, cross_of}
use Rattle.clock.specs.declared.SubWindowClock.{SubWindowClock}
use Rattle.clock.specs.declared.SubWindowClock.TheVariants.{CountBased, TimeBased}
use Rattle.clock.specs.Clock.{n_of}
use Rattle.sketch.specs.Sketch.{World, key_cells, count_from, insert_at, insert_each, recorded, cross_each, moved}
use Rattle.sketch.specs.Figures.{over_of, items_in, least_in, sum_back}
use Rattle.sketch.specs.Refusals.{bits_up_to, grid_fits, all_below, key_fits, update_call, update_at_call, advance_call}
use Rattle.sketch.specs.Audit.{first_unsound}
use Rattle.band.specs.Calls.{Call, update, update_at, advance, Settings, fresh, next, run}
use Rattle.band.specs.Tally.{accepts, hits, counted, empty, marked_each, tallied, tally_from, tally, exact}
use Rattle.band.specs.Stages.{through}
use Rattle.band.specs.Peak.{zoom_now, zoom_inside, zoom_through, peak}
use Rattle.band.specs.Band.{AcceptedSettings, Key, highest_held, NeverAtTop, covered, band_width, over_after}
use Rattle.band.proofs.AsTallied.{passage, passage_is}
use Rattle.band.proofs.Band.{band}

-- Over and the exact figure of a key after a list, the sub-windows covered, and the highest zoom that its cells held
pub record Shows (S : Settings) (seed : ℕ) (calls : List Call) (key : List ℕ) (over was k M : ℕ) : Type 0 where
  pub over_is : over_after S seed calls key ≡ over
  pub exact_is : exact S (tally S calls) key ≡ was
  pub covered_is : covered S (tally S calls) ≡ k
  pub held_is : highest_held S seed calls key ≡ M

-- one row of two columns
abbrev pub one_row : ℕ → ℕ → SubWindowClock → Settings
one_row t c clock = record { rows = 1; cols = 2; params = record { t = t; c = c }; clock = clock }

-- t = 1, c = 3, so many items a sub-window
abbrev pub by_items : ℕ → Settings
by_items length = one_row 1 3 (CountBased length 0)

abbrev pub times : ℕ → List Call
times count = replicate count (update (0 ∷ []))

-- three items, and between them calls that are refused: by 7 (two columns), by 8, by 7 (a column too high)
abbrev pub mixed : List Call
mixed = update (0 ∷ []) ∷ update (0 ∷ 1 ∷ []) ∷ update (0 ∷ []) ∷ advance 7 ∷ update (2 ∷ []) ∷ update (0 ∷ []) ∷ []

-- two rows, each of which sees the key (0, 0) once, in different sub-windows
abbrev pub by_rows : Settings
by_rows = record { rows = 2; cols = 2; params = record { t = 2; c = 2 }; clock = CountBased 1 0 }

abbrev pub crosswise : List Call
crosswise = update (0 ∷ 1 ∷ []) ∷ update (1 ∷ 0 ∷ []) ∷ []

-- sub-windows of 10 from 5 on; two of the readings are older and leave the clock
abbrev pub by_time : Settings
by_time = one_row 1 2 (TimeBased 10 5 0)

abbrev pub timed : List Call
timed = update_at (0 ∷ []) 20 ∷ update_at (0 ∷ []) 7 ∷ update_at (0 ∷ []) 26 ∷ advance 12 ∷ []

-- a full pixel, and then a call for it that is refused: by 7 (two columns), by 8 (a clock of time), by 7 where it would cross
abbrev pub full_columns : List Call
full_columns = times 255 ++ update (0 ∷ 1 ∷ []) ∷ []

abbrev pub full_kind : List Call
full_kind = replicate 255 (update_at (0 ∷ []) 5) ++ update (0 ∷ []) ∷ []

abbrev pub full_crossing : List Call
full_crossing = replicate 511 (update_at (0 ∷ []) 5) ++ update_at (0 ∷ 1 ∷ []) 15 ∷ []

-- the highest zoom by another reading: after the calls alone, not inside a crossing
pub between : World → List Call → ℕ → ℕ
between w [] j = zoom_now w j
between w (call ∷ calls) j = max (zoom_now w j) (between (next w call) calls j)

-- the figures of the key 0 in one row: Over, the exact figure, k and M. Each call is judged by the tally's test alone, so that a long list can be computed;
-- what is unfolded here is unfolded for all examples
unfoldable figures : ℕ → ℕ → SubWindowClock → ℕ → List Call → ℕ × ℕ × ℕ × ℕ
unfolding passage highest number_of bytes_of each_of least largest total seeded xor_down xor_up next_state yielded rounded_div
    shutter_of with_shutter max_zoom sound_of divide_each zoom_out_of credit_of insert_of close_of clear_of emptied inside_of ceiling_of all_at_most times_each zoomed_in
    zoom_in_from cross_of n_of key_cells count_from insert_at insert_each recorded cross_each moved items_in least_in sum_back bits_up_to grid_fits all_below key_fits
    update_call update_at_call advance_call first_unsound accepts hits counted empty marked_each tallied tally_from exact through zoom_now zoom_inside zoom_through
figures t c clock seed calls =
    let S = one_row t c clock in
    let way = passage S (fresh S seed) calls 0 in
    let T = tally S calls in
    (over_of way.last.sketch way.last.grid (0 ∷ []), exact S T (0 ∷ []), covered S T, way.top)

shown : (t c : ℕ) (clock : SubWindowClock) (seed : ℕ) (calls : List Call) → AcceptedSettings (one_row t c clock) → (over was k M : ℕ)
    → figures t c clock seed calls ≡ (over, was, k, M) → Shows (one_row t c clock) seed calls (0 ∷ []) over was k M
unfolding figures
shown t c clock seed calls ok over was k M e =
    let is = passage_is (one_row t c clock) ok 0 seed calls in
    record {
      over_is = rw is at (ap (λ f. f.0) e);
      exact_is = ap (λ f. f.1) e;
      covered_is = ap (λ f. f.2) e;
      held_is = rw is at (ap (λ f. f.3) e);
    }

pub record Examples : Type 0 where
  -- the 256th item zooms out, and seed 3 takes 256 / 3 up to 86: 2 too many, which is the whole of (2 × 1 − 1) × (3 − 1)
  pub up : Shows (by_items 1000) 3 (times 256) (0 ∷ []) 258 256 1 1
  -- seed 14 takes 256 / 3 up, and the 257th item, alone in the shutter, too: 4 too many in one past sub-window, the whole of its 2 × (3 − 1)
  pub twice : Shows (by_items 257) 14 (times 257) (0 ∷ []) 261 257 2 1
  -- the last item zooms out and the crossing of the same call zooms in again (85 is at most 255 / 3): after the calls the zoom is always 0,
  -- and yet the figure is not exact, so what a cell holds inside a crossing has to count
  pub inside : Shows (by_items 256) 1 (times 256) (0 ∷ []) 255 256 2 1
  pub inside_only : between (fresh (by_items 256) 1) (times 256) 0 ≡ 0
  -- the first of two items has left the window; refused calls change nothing; the minimum comes before the sum (each row alone has 1);
  -- an older reading leaves the clock
  pub expired : Shows (by_items 1) 0 (times 2) (0 ∷ []) 1 1 2 0
  pub refused : Shows (by_items 2) 0 mixed (0 ∷ []) 3 3 2 0
  pub rows : Shows by_rows 0 crosswise (0 ∷ 0 ∷ []) 0 0 3 0
  pub older : Shows by_time 0 timed (0 ∷ []) 3 3 2 0

pub examples : Examples
unfolding figures run peak between
examples = record {
  up = record { over_is = refl; exact_is = refl; covered_is = refl; held_is = refl };
  twice = shown 1 3 (CountBased 257 0) 14 (times 257) refl 261 257 2 1 refl;
  inside = shown 1 3 (CountBased 256 0) 1 (times 256) refl 255 256 2 1 refl;
  inside_only = refl;
  expired = record { over_is = refl; exact_is = refl; covered_is = refl; held_is = refl };
  refused = record { over_is = refl; exact_is = refl; covered_is = refl; held_is = refl };
  rows = record { over_is = refl; exact_is = refl; covered_is = refl; held_is = refl };
  older = record { over_is = refl; exact_is = refl; covered_is = refl; held_is = refl };
}

-- A REFUSED CALL changes nothing, and what a cell would have held inside it does not count for M: done, each of these would zoom out.
-- Two columns (7): a pixel of 255 would be credited
pub full_columns_lem : Shows (by_items 1000) 3 full_columns (0 ∷ []) 255 255 1 0
unfolding figures
full_columns_lem = shown 1 3 (CountBased 1000 0) 3 full_columns refl 255 255 1 0 refl

-- the other kind of clock (8): the same
pub full_kind_lem : Shows by_time 3 full_kind (0 ∷ []) 255 255 1 0
unfolding figures
full_kind_lem = shown 1 2 (TimeBased 10 5 0) 3 full_kind refl 255 255 1 0 refl

-- two columns, at a later reading: the shutter of 1 would be closed into a pixel of 255, and seed 2 would take it up
pub full_crossing_lem : Shows by_time 2 full_crossing (0 ∷ []) 511 511 1 1
unfolding figures
full_crossing_lem = shown 1 2 (TimeBased 10 5 0) 2 full_crossing refl 511 511 1 1 refl

-- NEAR THE BOUND at other k and M.
-- k = 1, M = 2: seed 14 takes 256 / 3 up at both zoom-outs, 2 too many and then 2 × 3: the whole of 3 ^ 2 − 1
pub levels : Shows (by_items 1000) 14 (times 766) (0 ∷ []) 774 766 1 2
unfolding figures
levels = shown 1 3 (CountBased 1000 0) 14 (times 766) refl 774 766 1 2 refl

-- k = 2, M = 1: 256 / 129 down (127 lost), a shutter of 128 closed down (128 lost), a zooming in, and 256 / 129 down again: 382 of 384.
-- 257 is prime, so 256 leaves c − 1 over for no c: downwards a zoom-out falls short of its c − 1 by 1 at the least
pub windows : Shows (one_row 1 129 (CountBased 384 0)) 38118 (times 640) (0 ∷ []) 258 640 2 1
unfolding figures
windows = shown 1 129 (CountBased 384 0) 38118 (times 640) refl 258 640 2 1 refl

-- k = 3, M = 1: the same in three sub-windows, 637 of 640
pub three_windows : Shows (one_row 2 129 (CountBased 384 0)) 522263299 (times 1024) (0 ∷ []) 387 1024 3 1
unfolding figures
three_windows = shown 2 129 (CountBased 384 0) 522263299 (times 1024) refl 387 1024 3 1 refl

-- k = 2, M = 2: 8 too many as in `levels`, and the 767th item, alone in its shutter, closed up to a unit of 9: 16 of 24, all of it in the past
-- sub-window. The cell stays at zoom 2 while a pixel of 87 is in it (zooming in asks for 85), so the present one is counted exactly
pub levels_closed : Shows (by_items 767) 152 (times 767) (0 ∷ []) 783 767 2 2
unfolding figures
levels_closed = shown 1 3 (CountBased 767 0) 152 (times 767) refl 783 767 2 2 refl

-- THE THEOREM AT `up` AND AT `levels`: its premises are met
accepted : AcceptedSettings (by_items 1000)
unfolding grid_fits bits_up_to
accepted = refl

key_right : Key (by_items 1000) (0 ∷ [])
key_right = record { each_row = refl; each_low = λ row h. let e : row ≡ 0 = omega arith in rw e (lit< tt) }

module _ (seed : ℕ) (calls : List Call) (over was k M : ℕ) (s : Shows (by_items 1000) seed calls (0 ∷ []) over was k M) (low : M < max_zoom 3) where
  never : NeverAtTop (by_items 1000) seed calls (0 ∷ [])
  unfolding largest
  never row h =
      let e : row ≡ 0 = omega arith in
      rw (e, s.held_is) low

  within : Within (band_width k 3 M) over was
  within = rw (s.held_is, s.covered_is, s.over_is, s.exact_is) at (band (by_items 1000) accepted seed calls (0 ∷ []) key_right never)

-- 258 ≤ 256 + 2 and 256 ≤ 258 + 2
pub applied : Within (band_width 1 3 1) 258 256
unfolding max_zoom highest
applied = within 3 (times 256) 258 256 1 1 examples.up (lit< tt)

-- 774 ≤ 766 + 8 and 766 ≤ 774 + 8
pub applied_levels : Within (band_width 1 3 2) 774 766
unfolding max_zoom highest
applied_levels = within 14 (times 766) 774 766 1 2 levels (lit< tt)

-- and no narrower band would hold there: neither 2 k − 2 for 2 k − 1, nor c ^ M − 2 for c ^ M − 1
pub attained : (e : ℕ) → e < band_width 1 3 1 → Within e 258 256 → ⊥
attained e narrower near = omega (arith, near.low)

pub attained_levels : (e : ℕ) → e < band_width 1 3 2 → Within e 774 766 → ⊥
attained_levels e narrower near = omega (arith, near.low)

-- at `windows` and `three_windows` only one that is narrower by 2, or by 3, at the most
pub near_windows : (e : ℕ) → Within e 258 640 → band_width 2 129 1 ≤ e + 2
near_windows e near = omega (arith, near.high)

pub near_three : (e : ℕ) → Within e 387 1024 → band_width 3 129 1 ≤ e + 3
near_three e near = omega (arith, near.high)
