-- Document 01, "Turning a call back", for the calls on a sketch. Each call's answer, whole, and the bytes that it leaves.
use Rattle.std.specs.Prelude.{ℕ, zero, suc, ◌*◌, ◌^◌, Bool, true, false, not, cond, ◌&&◌, ◌||◌, List, [], ◌∷◌, leb, ltb, eqb, Float, length}
use Rattle.laws.specs.Figure.{figure}
use Rattle.laws.specs.Unit.{in_unit}
use Rattle.refusal.specs.declared.Verdict.{Verdict}
use Rattle.refusal.specs.declared.Verdict.TheVariants.{Accepted, Unsound}
use Rattle.refusal.specs.Refusals.{number_of, when_accepted, and_then}
use Rattle.refusal.specs.Causes.{Cause, cause, unsound, refuse_by}
use Rattle.rounding.specs.Refusals.{refuse_state}
use Rattle.cell.specs.declared.MicroParams.{MicroParams}
use Rattle.cell.specs.Refusals.{refuse_params}
use Rattle.clock.specs.declared.SubWindowClock.{SubWindowClock}
use Rattle.clock.specs.declared.SubWindowClock.TheVariants.{CountBased}
use Rattle.clock.specs.Clock.{n_of, fraction_of, tick_of, advance_of, same_frame}
use Rattle.clock.specs.Refusals.{is_timed, is_counted, refuse_length}
use Rattle.sketch.specs.declared.MicroCm.{MicroCm}
use Rattle.sketch.specs.declared.SketchAnswer.{SketchAnswer}
use Rattle.sketch.specs.declared.Reading.{Reading}
use Rattle.sketch.specs.declared.ReadingAnswer.{ReadingAnswer}
use Rattle.sketch.specs.declared.MeanAnswer.{MeanAnswer}
use Rattle.sketch.specs.declared.HighestAnswer.{HighestAnswer}
use Rattle.sketch.specs.declared.AuditAnswer.{AuditAnswer}
use Rattle.sketch.specs.declared.Finding.TheVariants as finding
use Rattle.sketch.specs.Sketch.{grid_bytes, cell_index, cell_of, key_cells, all_cells, fresh_sketch, fresh_grid, World, updated, advanced, updated_at}
use Rattle.sketch.specs.Figures.{over_of, under_of, mean_of, has_oldest, one_reading}
use Rattle.sketch.specs.Merge.{merged}
use Rattle.sketch.specs.Audit.{first_unsound, audit_of, highest_zoom}

-- THE CAUSES, each with its number (1, 2: the cell's; 3: the clock's; 5: the random state's)
-- log2 of cols where that is 1 to k, and 0 where cols is no such power of two
unfoldable pub bits_up_to : ℕ → ℕ → ℕ
bits_up_to zero cols = 0
bits_up_to (suc k) cols = cond (eqb cols (2 ^ suc k)) (suc k) (bits_up_to k cols)

-- cols is a power of two, 2 to 65,536; rows ≥ 1; rows × log2(cols) ≤ 128
unfoldable pub grid_fits : ℕ → ℕ → Bool
grid_fits rows cols = leb 1 rows && leb 1 (bits_up_to 16 cols) && leb (rows * bits_up_to 16 cols) 128

-- 4: rows or cols
abbrev pub bad_dimensions : ℕ → ℕ → Cause
bad_dimensions rows cols = cause 4 (not (grid_fits rows cols))

-- 6: the grid's bytes are not rows × cols × depth
abbrev pub bad_grid : MicroCm → List ℕ → Cause
bad_grid k g = cause 6 (not (eqb (length g) (grid_bytes k)))

unfoldable pub all_below : ℕ → List ℕ → Bool
all_below m [] = true
all_below m (x ∷ xs) = ltb x m && all_below m xs

-- one column a row, each below cols
unfoldable pub key_fits : MicroCm → List ℕ → Bool
key_fits k key = eqb (length key) k.rows && all_below k.cols key

-- 7: the columns
abbrev pub bad_key : MicroCm → List ℕ → Cause
bad_key k key = cause 7 (not (key_fits k key))

-- 7: a row or column out of range
abbrev pub no_cell : MicroCm → ℕ → ℕ → Cause
no_cell k row col = cause 7 (leb k.rows row || leb k.cols col)

-- 10: rows, cols, t or c differ
abbrev pub same_shape : MicroCm → MicroCm → Bool
same_shape k k' =
    eqb k.rows k'.rows && eqb k.cols k'.cols && eqb k.params.t k'.params.t && eqb k.params.c k'.params.c

abbrev pub other_shape : MicroCm → MicroCm → Cause
other_shape k k' = cause 10 (not (same_shape k k'))

-- 11: kind, length or epoch differ
abbrev pub other_frame : MicroCm → MicroCm → Cause
other_frame k k' = cause 11 (not (same_frame k.clock k'.clock))

-- 12: n differs
abbrev pub other_sub_window : MicroCm → MicroCm → Cause
other_sub_window k k' = cause 12 (not (eqb (n_of k.clock) (n_of k'.clock)))

-- 13: n ≥ t, and the given fraction is NaN or outside 0..=1
abbrev pub bad_fraction : MicroCm → Float → Cause
bad_fraction k fraction = cause 13 (has_oldest k && not (in_unit fraction))

-- 14: one of these cells is unsound; the index is that of the first
abbrev pub bad_cells : MicroCm → List ℕ → List ℕ → Cause
bad_cells k g cells = unsound (first_unsound (λ j. j) 0 k g cells) (first_unsound (λ j. true) false k g cells)

-- A CAUSE, and what is said where it does not hold
-- 1 to 4: what a fresh start is given
abbrev pub refuse_settings : ℕ → ℕ → MicroParams → SubWindowClock → Verdict → Verdict
refuse_settings rows cols p clock rest = refuse_params p (refuse_length clock (refuse_by (bad_dimensions rows cols) rest))

abbrev pub refuse_grid : MicroCm → List ℕ → Verdict → Verdict
refuse_grid k g rest = refuse_by (bad_grid k g) rest

-- 1 to 5: a sketch's own numbers
abbrev pub refuse_numbers : MicroCm → Verdict → Verdict
refuse_numbers k rest = refuse_settings k.rows k.cols k.params k.clock (refuse_state k.rounding.state rest)

abbrev pub numbers_verdict : MicroCm → Verdict
numbers_verdict k = refuse_numbers k Accepted

-- 1 to 6: a sketch that is handed in with its grid
abbrev pub refuse_sketch : MicroCm → List ℕ → Verdict → Verdict
refuse_sketch k g rest = refuse_numbers k (refuse_grid k g rest)

abbrev pub refuse_key : MicroCm → List ℕ → Verdict → Verdict
refuse_key k key rest = refuse_by (bad_key k key) rest

abbrev pub refuse_timed : MicroCm → Verdict → Verdict
refuse_timed k rest = refuse_by (is_timed k.clock) rest

abbrev pub refuse_counted : MicroCm → Verdict → Verdict
refuse_counted k rest = refuse_by (is_counted k.clock) rest

abbrev pub refuse_unsound : MicroCm → List ℕ → List ℕ → Verdict → Verdict
refuse_unsound k g cells rest = first_unsound Unsound rest k g cells

-- these cells if n stays, and every cell if the move to this clock crosses
abbrev pub judged_cells : MicroCm → SubWindowClock → List ℕ → List ℕ
judged_cells k clock cells = cond (eqb (n_of clock) (n_of k.clock)) cells (all_cells k)

-- an item for a sketch that takes this clock by the call: 1 to 7, what is asked between 7 and 14, and 14 over the key's cells
abbrev pub item_verdict : MicroCm → List ℕ → List ℕ → SubWindowClock → (Verdict → Verdict) → Verdict
item_verdict k key g clock between =
    refuse_sketch k g (refuse_key k key (between (refuse_unsound k g (judged_cells k clock (key_cells k 0 key)) Accepted)))

-- and no item: within its sub-window it judges no cell
abbrev pub move_verdict : MicroCm → List ℕ → SubWindowClock → (Verdict → Verdict) → Verdict
move_verdict k g clock between = refuse_sketch k g (between (refuse_unsound k g (judged_cells k clock []) Accepted))

-- A CALL THAT MAY CHANGE THE SKETCH: everything it gives, and the grid that it leaves
pub record SketchOutcome : Type 0 where
  pub answer : SketchAnswer
  pub grid : List ℕ

abbrev pub sketch_outcome : SketchAnswer → List ℕ → SketchOutcome
sketch_outcome r g = record { answer = r; grid = g }

-- the answer of a call that led to this world, and of one that drew nothing and lost nothing
abbrev pub answered : Verdict → World → SketchAnswer
answered v w = record { verdict = v; sketch = w.sketch; draws = w.draws; lost = w.lost }

abbrev pub undrawn : Verdict → MicroCm → SketchAnswer
undrawn v k = record { verdict = v; sketch = k; draws = 0; lost = 0 }

-- the world after it if the call is accepted, and all as it was if not
abbrev pub sketch_call : Verdict → World → World → SketchOutcome
sketch_call v after before = let w = when_accepted v after before in sketch_outcome (answered v w) w.grid

-- as a call finds it
abbrev pub world : MicroCm → List ℕ → World
world k g = record { sketch = k; grid = g; draws = 0; lost = 0 }

-- no sketch: every call refuses it, by 1
abbrev pub no_sketch : MicroCm
no_sketch =
    record { rows = 0; cols = 0; params = record { t = 0; c = 0 }; clock = CountBased 0 0; rounding = record { state = 0 } }

abbrev pub fresh_verdict : ℕ → ℕ → MicroParams → SubWindowClock → ℕ → List ℕ → Verdict
fresh_verdict rows cols p clock seed g = refuse_settings rows cols p clock (refuse_grid (fresh_sketch rows cols p clock seed) g Accepted)

unfoldable pub fresh_call : ℕ → ℕ → MicroParams → SubWindowClock → ℕ → List ℕ → SketchOutcome
fresh_call rows cols p clock seed g =
    let k = fresh_sketch rows cols p clock seed in
    sketch_call (fresh_verdict rows cols p clock seed g) (world k (fresh_grid k)) (world no_sketch g)

abbrev pub update_verdict : MicroCm → List ℕ → List ℕ → Verdict
update_verdict k key g = item_verdict k key g (tick_of k.clock) (refuse_timed k)

unfoldable pub update_call : MicroCm → List ℕ → List ℕ → SketchOutcome
update_call k key g = sketch_call (update_verdict k key g) (updated key (world k g)) (world k g)

abbrev pub update_at_verdict : MicroCm → List ℕ → ℕ → List ℕ → Verdict
update_at_verdict k key reading g = item_verdict k key g (advance_of k.clock reading) (refuse_counted k)

unfoldable pub update_at_call : MicroCm → List ℕ → ℕ → List ℕ → SketchOutcome
update_at_call k key reading g = sketch_call (update_at_verdict k key reading g) (updated_at key reading (world k g)) (world k g)

abbrev pub advance_verdict : MicroCm → ℕ → List ℕ → Verdict
advance_verdict k reading g = move_verdict k g (advance_of k.clock reading) (refuse_counted k)

unfoldable pub advance_call : MicroCm → ℕ → List ℕ → SketchOutcome
advance_call k reading g = sketch_call (advance_verdict k reading g) (advanced reading (world k g)) (world k g)

-- READING: the clock's fraction needs no range test
abbrev pub read_verdict : MicroCm → List ℕ → List ℕ → Verdict
read_verdict k key g = refuse_sketch k g (refuse_key k key (refuse_unsound k g (key_cells k 0 key) Accepted))

abbrev pub read_with_verdict : MicroCm → List ℕ → Float → List ℕ → Verdict
read_with_verdict k key fraction g =
    refuse_sketch k g (refuse_key k key (refuse_by (bad_fraction k fraction) (refuse_unsound k g (key_cells k 0 key) Accepted)))

abbrev pub no_reading : Reading
no_reading = record { over = figure 0; under = figure 0; linear = figure 0; fraction = figure 0 }

abbrev pub reading_answer : Verdict → MicroCm → List ℕ → List ℕ → Float → ReadingAnswer
reading_answer v k g key fraction =
    record {
      verdict = v;
      reading = when_accepted v (one_reading k g key fraction) no_reading;
      over = when_accepted v (over_of k g key) 0;
      under = when_accepted v (under_of k g key) 0;
    }

unfoldable pub read_call : MicroCm → List ℕ → List ℕ → ReadingAnswer
read_call k key g = reading_answer (read_verdict k key g) k g key (fraction_of k.clock)

unfoldable pub read_with_call : MicroCm → List ℕ → Float → List ℕ → ReadingAnswer
read_with_call k key fraction g = reading_answer (read_with_verdict k key fraction g) k g key fraction

unfoldable pub mean_call : MicroCm → List ℕ → List ℕ → MeanAnswer
mean_call k key g = record { verdict = read_verdict k key g; mean = when_accepted (read_verdict k key g) (mean_of k g key) 0 }

-- THE CELL'S OWN BYTES: 7 for a row or column out of range, and then no bytes
abbrev pub bucket_verdict : MicroCm → ℕ → ℕ → List ℕ → Verdict
bucket_verdict k row col g = refuse_sketch k g (refuse_by (no_cell k row col) Accepted)

unfoldable pub bucket_call : MicroCm → ℕ → ℕ → List ℕ → List ℕ
bucket_call k row col g = when_accepted (bucket_verdict k row col g) (cell_of k g (cell_index k row col)) []

-- THE HIGHEST ZOOM judges every cell; the AUDIT reports unsound cells as its result
abbrev pub highest_verdict : MicroCm → List ℕ → Verdict
highest_verdict k g = refuse_sketch k g (refuse_unsound k g (all_cells k) Accepted)

unfoldable pub highest_call : MicroCm → List ℕ → HighestAnswer
highest_call k g = record { verdict = highest_verdict k g; zoom = when_accepted (highest_verdict k g) (highest_zoom k g) 0 }

abbrev pub sketch_verdict : MicroCm → List ℕ → Verdict
sketch_verdict k g = refuse_sketch k g Accepted

unfoldable pub audit_call : MicroCm → List ℕ → AuditAnswer
audit_call k g = record { verdict = sketch_verdict k g; audit = when_accepted (sketch_verdict k g) (audit_of k g) finding.Sound }

-- MERGE
-- 1 to 6 for either sketch: the lower number of the two
abbrev pub lower_of : Verdict → Verdict → Verdict
lower_of v v' = when_accepted v v' (when_accepted v' v (cond (leb (number_of v) (number_of v')) v v'))

-- 10, then 11 (kind, length or epoch), 12 (n)
abbrev pub refuse_pair : MicroCm → MicroCm → Verdict → Verdict
refuse_pair k k' rest = refuse_by (other_shape k k') (refuse_by (other_frame k k') (refuse_by (other_sub_window k k') rest))

-- and 14: the receiving grid is searched first
abbrev pub merge_verdict : MicroCm → List ℕ → MicroCm → List ℕ → Verdict
merge_verdict k g k' g' =
    and_then (lower_of (sketch_verdict k g) (sketch_verdict k' g'))
    (refuse_pair k k' (refuse_unsound k g (all_cells k) (refuse_unsound k' g' (all_cells k') Accepted)))

-- the other grid is lent to be read only
unfoldable pub merge_call : MicroCm → List ℕ → MicroCm → List ℕ → SketchOutcome
merge_call k g k' g' = sketch_call (merge_verdict k g k' g') (merged g' (world k g)) (world k g)
