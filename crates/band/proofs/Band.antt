-- DEMAND 3. Each cell of the key holds the tally's numbers; per sub-window the minimum across rows keeps the distance, and the sum adds the distances up.
use Prim.Native.Nat.{ℕ, ◌+◌, ◌-◌, ◌*◌, ◌^◌, ◌≤◌, ◌<◌, min}
use mathlib.Core.Path.{◌≡◌, refl}
use mathlib.Core.List.{List}
use lib.Arith.{digits_lt}
use lib.ListN.{get_or}
use native.Mathlib.Omega.{arith}
use native.Mathlib.Nat.{one-le-pow, pow-le-pow_right, mul-zero, one-mul, pow-suc, pow-zero}
use borrow.Author.Tests.{eq-eqb, ne_eqb}
use Rattle.laws.specs.Sums.{least, largest}
use Rattle.laws.specs.Within.{Within}
use Rattle.laws.proofs.SumLaws.{least_within, le_largest, largest_lt, total_within}
use Rattle.cell.specs.Cell.{zoom_at, zoom_of, max_zoom}
use Rattle.cell.proofs.PowerLaws.{zoom_below}
use Rattle.clock.specs.Clock.{n_of}
use Rattle.clock.proofs.ClockLaws.{start_n}
use Rattle.sketch.proofs.AddressLaws.{product_le}
use Rattle.sketch.specs.declared.MicroCm.{MicroCm}
use Rattle.sketch.specs.Sketch.{cell_of}
use Rattle.sketch.specs.Figures.{items_in, least_in, sum_back, over_of}
use Rattle.sketch.proofs.SettingsLaws.{good_settings}
use Rattle.sketch.proofs.GridLaws.{fits_cell, cell_length}
use Rattle.sketch.proofs.WorldLaws.{good_room, fresh_byte, fresh_shutter}
use Rattle.band.specs.Calls.{Call, Settings, fresh, run}
use Rattle.band.specs.Tally.{Tally, empty, tally, exact}
use Rattle.band.specs.Peak.{peak}
use Rattle.band.specs.Band.{AcceptedSettings, Key, after, peak_in, highest_held, NeverAtTop, covered, band_width, over_after, Demand3}
use Rattle.band.proofs.CellHistory.{Holds}
use Rattle.band.proofs.Reached.{sketch_of, fit, sketch_is, fresh_reached}
use Rattle.band.proofs.Steps.{reached}
use Rattle.band.proofs.CellKept.{Keeps, run_keeps}
use Rattle.band.proofs.History as H

-- WHAT A CELL SAYS of the present sub-window, and of a past one
module _ (t c M n : ℕ) (x : ℕ → ℕ) (b : List ℕ) (h : Holds t c M n x b) where
  base : 0 < c
  base = omega (arith, h.fit.c_low)

  one : 1 ≤ c ^ M
  one = one-le-pow M c base

  says_present : Within (c ^ M - 1) (items_in t c n b n) (x n)
  unfolding items_in
  says_present =
      let up : c ^ zoom_of t b ≤ c ^ M = pow-le-pow_right base h.known.zoom in
      rw (eq-eqb n n refl) (record { low = omega (arith, one, h.known.present.low); high = omega (arith, one, h.known.present.high) })

  says_past : (j : ℕ) → j < n → n ≤ j + t → Within (2 * (c ^ M - 1)) (items_in t c n b j) (x j)
  unfolding items_in
  says_past j l k =
      let p = h.known.past j l k in
      let up : c ^ (zoom_of t b + p.extra) ≤ c ^ M = pow-le-pow_right base p.level in
      rw (ne_eqb j n (λ e. omega arith)) (record { low = omega (arith, one, p.low); high = omega (arith, one, p.high) })

-- A FRESH SKETCH: nothing is recorded, and every byte is 0
fresh_keeps : (S : Settings) → AcceptedSettings S → (M row col seed : ℕ) (calls : List Call) → row < S.rows → col < S.cols
    → peak (fresh S seed) calls (row * S.cols + col) ≤ M → Keeps S M row col calls (empty S) (fresh S seed)
unfolding empty
fresh_keeps S ok M row col seed calls hr hl l =
    let k = (fresh S seed).sketch in
    let g = (fresh S seed).grid in
    let j = row * S.cols + col in
    let r = fresh_reached S ok seed in
    let long = cell_length k g j (good_room k g k.rounding.state r.good) (digits_lt hr hl) in
    record {
      reached = r;
      holds = rw (start_n S.clock)
          (record {
            fit = fits_cell k (fit S ok) (cell_of k g j) long;
            small = λ i. rw (fresh_byte k j i) (omega arith);
            known = rw (fresh_byte k j (zoom_at S.params.t), fresh_shutter k j) (H.empty_open (fit S ok).c_low (λ i. refl) (λ i q. fresh_byte k j i));
          });
      below = l;
    }

module _ (S : Settings) (ok : AcceptedSettings S) (seed : ℕ) (calls : List Call) (key : List ℕ) (right : Key S key) (never : NeverAtTop S seed calls key) where
  abbrev M : ℕ
  M = highest_held S seed calls key

  abbrev T : Tally
  T = tally S calls

  abbrev n : ℕ
  n = n_of T.clock

  abbrev t : ℕ
  t = S.params.t

  abbrev c : ℕ
  c = S.params.c

  some : 1 ≤ S.rows
  some = (good_settings S.rows S.cols S.params S.clock ok).grid.rows_low

  low : M < max_zoom c
  low = largest_lt (S.rows - 1) (max_zoom c) (peak_in S seed calls key) (λ row l. never row (omega (arith, some)))

  abbrev k : MicroCm
  k = sketch_of S T.clock (after S seed calls).sketch.rounding.state

  abbrev cell_in : ℕ → List ℕ
  cell_in row = cell_of k (after S seed calls).grid (row * S.cols + get_or key row 0)

  -- it is the one that the calls left
  left : (after S seed calls).sketch ≡ k
  left = sketch_is S T (after S seed calls) (reached S ok seed calls)

  -- EACH CELL of the key holds the tally's numbers
  holds : (row : ℕ) → row < S.rows → Holds t c M n (T.items row (get_or key row 0)) (cell_in row)
  holds row h =
      let col = get_or key row 0 in
      let l = right.each_low row h in
      let most = le_largest (S.rows - 1) (peak_in S seed calls key) row (omega arith) in
      let start = fresh S seed in
      rw left at (run_keeps S ok M row col low h l calls (empty S) start.sketch start.grid (fresh_keeps S ok M row col seed calls h l most)).holds

  -- EACH SUB-WINDOW: the minimum across rows, as the sketch says and as it was
  abbrev said : ℕ → ℕ
  said back = least (S.rows - 1) (λ row. items_in t c n (cell_in row) (n - back))

  abbrev was : ℕ → ℕ
  was back = least (S.rows - 1) (λ row. T.items row (get_or key row 0) (n - back))

  near_now : Within (c ^ M - 1) (said 0) (was 0)
  near_now =
      let e : n - 0 ≡ n = omega arith in
      rw e
      (least_within (S.rows - 1) (c ^ M - 1) (λ row. items_in t c n (cell_in row) n) (λ row. T.items row (get_or key row 0) n)
      (λ row l. says_present t c M n (T.items row (get_or key row 0)) (cell_in row) (holds row (omega (arith, some)))))

  near_past : (back : ℕ) → 0 < back → back ≤ min n t → Within (2 * (c ^ M - 1)) (said back) (was back)
  near_past back past l =
      least_within (S.rows - 1) (2 * (c ^ M - 1)) (λ row. items_in t c n (cell_in row) (n - back)) (λ row. T.items row (get_or key row 0) (n - back))
      (λ row q. says_past t c M n (T.items row (get_or key row 0)) (cell_in row) (holds row (omega (arith, some))) (n - back) (omega arith) (omega arith))

  -- THE SUM over the sub-windows: 1 for the present and 2 for each past one
  wide_enough : (2 * min n t + 1) * (c ^ M - 1) ≤ band_width (covered S T) c M
  wide_enough = product_le (2 * min n t + 1) (c ^ M - 1) _ _ (omega arith) (omega arith)

  pub sum_within : Within (band_width (covered S T) c M) (over_after S seed calls key) (exact S T key)
  unfolding sum_back least_in exact
  sum_within =
      let near = total_within (min n t) (c ^ M - 1) said was near_now near_past in
      rw left (record { low = omega (arith, near.low, wide_enough); high = omega (arith, near.high, wide_enough) })

-- THE THEOREM
pub band : Demand3
band = sum_within

-- its two inequalities, written out
pub band_inequalities : (S : Settings) → AcceptedSettings S → (seed : ℕ) (calls : List Call) (key : List ℕ) → Key S key
    → ((row : ℕ) → row < S.rows → peak (fresh S seed) calls (row * S.cols + get_or key row 0) < max_zoom S.params.c)
    → (let M = largest (S.rows - 1) (λ row. peak (fresh S seed) calls (row * S.cols + get_or key row 0)) in
    let w = run (fresh S seed) calls in
    let T = tally S calls in
    let e = (2 * (min (n_of T.clock) S.params.t + 1) - 1) * (S.params.c ^ M - 1) in
    (over_of w.sketch w.grid key ≤ exact S T key + e) × (exact S T key ≤ over_of w.sketch w.grid key + e))
band_inequalities S ok seed calls key right never = ((band S ok seed calls key right never).low, (band S ok seed calls key right never).high)

-- AT M = 0 the figure is exact, and no ceiling need be spoken of: it is above 0
pub band_exact : (S : Settings) → AcceptedSettings S → (seed : ℕ) (calls : List Call) (key : List ℕ) → Key S key → highest_held S seed calls key ≡ 0
    → over_after S seed calls key ≡ exact S (tally S calls) key
band_exact S ok seed calls key right e =
    let good = good_settings S.rows S.cols S.params S.clock ok in
    let power : S.params.c ^ 1 ≡ S.params.c = rw (pow-suc S.params.c 0, pow-zero S.params.c) (one-mul S.params.c) in
    let top : 1 ≤ max_zoom S.params.c = zoom_below S.params.c good.fit.c_low 1 (omega (arith, good.fit.c_high)) in
    let never : NeverAtTop S seed calls key = λ row h. omega (arith, le_largest (S.rows - 1) (peak_in S seed calls key) row (omega arith)) in
    let b = band S ok seed calls key right never in
    let z : band_width (covered S (tally S calls)) S.params.c (highest_held S seed calls key) ≡ 0 =
    rw (e, pow-zero S.params.c) (mul-zero (2 * covered S (tally S calls) - 1)) in
    omega (arith, b.low, b.high)
