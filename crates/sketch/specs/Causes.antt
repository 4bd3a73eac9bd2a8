-- Document 01, "Turning a call back", call by call: the causes of each call on a sketch, a line each, in the order in which they are told.
-- The causes themselves, with number and condition, stand in Refusals.
use Rattle.std.specs.Prelude.{ℕ, List, [], ◌∷◌, ◌++◌, Float}
use Rattle.refusal.specs.Causes.{Cause, paired, Told}
use Rattle.rounding.specs.Refusals.{no_state}
use Rattle.cell.specs.declared.MicroParams.{MicroParams}
use Rattle.cell.specs.Refusals.{bad_window, bad_base}
use Rattle.clock.specs.declared.SubWindowClock.{SubWindowClock}
use Rattle.clock.specs.Clock.{tick_of, advance_of}
use Rattle.clock.specs.Refusals.{bad_length, is_timed, is_counted}
use Rattle.sketch.specs.declared.MicroCm.{MicroCm}
use Rattle.sketch.specs.Sketch.{key_cells, all_cells, fresh_sketch}
use Rattle.sketch.specs.Refusals.{bad_dimensions, bad_grid, bad_key, no_cell, other_shape, other_frame, other_sub_window, bad_fraction, bad_cells}
use Rattle.sketch.specs.Refusals.{judged_cells, fresh_verdict, update_verdict, update_at_verdict, advance_verdict, read_verdict, read_with_verdict}
use Rattle.sketch.specs.Refusals.{bucket_verdict, highest_verdict, sketch_verdict, merge_verdict}

-- 1 to 4: settings
abbrev pub settings_causes : ℕ → ℕ → MicroParams → SubWindowClock → List Cause
settings_causes rows cols p clock = bad_window p ∷ bad_base p.c ∷ bad_length clock ∷ bad_dimensions rows cols ∷ []

-- 1 to 5: a sketch's own numbers
abbrev pub numbers_causes : MicroCm → List Cause
numbers_causes k = settings_causes k.rows k.cols k.params k.clock ++ no_state k.rounding.state ∷ []

-- 1 to 6: a sketch that is handed in with its grid; the audit has no others
abbrev pub sketch_causes : MicroCm → List ℕ → List Cause
sketch_causes k g = numbers_causes k ++ bad_grid k g ∷ []

-- A FRESH START: 1 to 4, 6
abbrev pub fresh_causes : ℕ → ℕ → MicroParams → SubWindowClock → ℕ → List ℕ → List Cause
fresh_causes rows cols p clock seed g = settings_causes rows cols p clock ++ bad_grid (fresh_sketch rows cols p clock seed) g ∷ []

-- COUNTING: 1 to 6, 7 where a key is given, 8, 14 over the key's cells, or over all if the call crosses
abbrev pub update_causes : MicroCm → List ℕ → List ℕ → List Cause
update_causes k key g = sketch_causes k g ++ bad_key k key ∷ is_timed k.clock ∷ bad_cells k g (judged_cells k (tick_of k.clock) (key_cells k 0 key)) ∷ []

abbrev pub update_at_causes : MicroCm → List ℕ → ℕ → List ℕ → List Cause
update_at_causes k key reading g =
    sketch_causes k g ++ bad_key k key ∷ is_counted k.clock ∷ bad_cells k g (judged_cells k (advance_of k.clock reading) (key_cells k 0 key)) ∷ []

abbrev pub advance_causes : MicroCm → ℕ → List ℕ → List Cause
advance_causes k reading g = sketch_causes k g ++ is_counted k.clock ∷ bad_cells k g (judged_cells k (advance_of k.clock reading) []) ∷ []

-- READING, and the mean: 1 to 7, 13 where a fraction is given, 14 over the key's cells
abbrev pub read_causes : MicroCm → List ℕ → List ℕ → List Cause
read_causes k key g = sketch_causes k g ++ bad_key k key ∷ bad_cells k g (key_cells k 0 key) ∷ []

abbrev pub read_with_causes : MicroCm → List ℕ → Float → List ℕ → List Cause
read_with_causes k key fraction g = sketch_causes k g ++ bad_key k key ∷ bad_fraction k fraction ∷ bad_cells k g (key_cells k 0 key) ∷ []

-- THE CELL'S OWN BYTES and the check beside it: 1 to 6, 7 for the row or column; no cell is judged
abbrev pub bucket_causes : MicroCm → ℕ → ℕ → List ℕ → List Cause
bucket_causes k row col g = sketch_causes k g ++ no_cell k row col ∷ []

-- THE HIGHEST ZOOM: 1 to 6, 14 over all cells
abbrev pub highest_causes : MicroCm → List ℕ → List Cause
highest_causes k g = sketch_causes k g ++ bad_cells k g (all_cells k) ∷ []

-- MERGE: 1 to 6 of either, 10, 11, 12, 14 over the receiving grid, then over the other
abbrev pub merge_causes : MicroCm → List ℕ → MicroCm → List ℕ → List Cause
merge_causes k g k' g' =
    paired (sketch_causes k g) (sketch_causes k' g')
    ++ other_shape k k' ∷ other_frame k k' ∷ other_sub_window k k' ∷ bad_cells k g (all_cells k) ∷ bad_cells k' g' (all_cells k') ∷ []

-- EVERY CALL on a sketch is refused by the first of its causes that holds, and they stand in the table's order
pub record SketchCalls : Type 0 where
  pub fresh : (rows cols : ℕ) (p : MicroParams) (clock : SubWindowClock) (seed : ℕ) (g : List ℕ)
      → Told (fresh_verdict rows cols p clock seed g) (1 ∷ 2 ∷ 3 ∷ 4 ∷ 6 ∷ []) (fresh_causes rows cols p clock seed g)
  pub update : (k : MicroCm) (key g : List ℕ) → Told (update_verdict k key g) (1 ∷ 2 ∷ 3 ∷ 4 ∷ 5 ∷ 6 ∷ 7 ∷ 8 ∷ 14 ∷ []) (update_causes k key g)
  pub update_at : (k : MicroCm) (key : List ℕ) (reading : ℕ) (g : List ℕ)
      → Told (update_at_verdict k key reading g) (1 ∷ 2 ∷ 3 ∷ 4 ∷ 5 ∷ 6 ∷ 7 ∷ 8 ∷ 14 ∷ []) (update_at_causes k key reading g)
  pub advance : (k : MicroCm) (reading : ℕ) (g : List ℕ) → Told (advance_verdict k reading g) (1 ∷ 2 ∷ 3 ∷ 4 ∷ 5 ∷ 6 ∷ 8 ∷ 14 ∷ []) (advance_causes k reading g)
  pub read : (k : MicroCm) (key g : List ℕ) → Told (read_verdict k key g) (1 ∷ 2 ∷ 3 ∷ 4 ∷ 5 ∷ 6 ∷ 7 ∷ 14 ∷ []) (read_causes k key g)
  pub read_with : (k : MicroCm) (key : List ℕ) (fraction : Float) (g : List ℕ)
      → Told (read_with_verdict k key fraction g) (1 ∷ 2 ∷ 3 ∷ 4 ∷ 5 ∷ 6 ∷ 7 ∷ 13 ∷ 14 ∷ []) (read_with_causes k key fraction g)
  pub bucket : (k : MicroCm) (row col : ℕ) (g : List ℕ) → Told (bucket_verdict k row col g) (1 ∷ 2 ∷ 3 ∷ 4 ∷ 5 ∷ 6 ∷ 7 ∷ []) (bucket_causes k row col g)
  pub highest : (k : MicroCm) (g : List ℕ) → Told (highest_verdict k g) (1 ∷ 2 ∷ 3 ∷ 4 ∷ 5 ∷ 6 ∷ 14 ∷ []) (highest_causes k g)
  pub audit : (k : MicroCm) (g : List ℕ) → Told (sketch_verdict k g) (1 ∷ 2 ∷ 3 ∷ 4 ∷ 5 ∷ 6 ∷ []) (sketch_causes k g)
  pub merge : (k : MicroCm) (g : List ℕ) (k' : MicroCm) (g' : List ℕ)
      → Told (merge_verdict k g k' g') (1 ∷ 1 ∷ 2 ∷ 2 ∷ 3 ∷ 3 ∷ 4 ∷ 4 ∷ 5 ∷ 5 ∷ 6 ∷ 6 ∷ 10 ∷ 11 ∷ 12 ∷ 14 ∷ 14 ∷ []) (merge_causes k g k' g')
