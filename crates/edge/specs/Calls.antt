-- The calls at the edge in words: each is the core's call on the sketch and the codes that the words stand for, told as the caller sees
-- it. So `updated w key g` is the number, the sketch's words, the grid and what is told after one item on the sketch of the words w.
use Rattle.std.specs.Prelude.{ℕ, List, Float}
use Rattle.rounding.specs.Refusals.{draw_call, division_call}
use Rattle.cell.specs.Refusals as cells
use Rattle.sketch.specs.Refusals.{update_call, update_at_call, advance_call, merge_call, read_call, read_with_call, mean_call, highest_call, audit_call}
use Rattle.store.specs.Refusals.{length_call, save_call}
use Rattle.store_shape.specs.Shape.{shape_call}
use Rattle.codes.specs.Refusals.{set_call, ask_call}
use Rattle.service.specs.Service.{start_call, load_call}
use Rattle.edge_values.specs.Edge.{clock_of, base_of, params_of, sketch_of, watch_of, Changed, changed_of, Started, started_of, Loaded, loaded_of}
use Rattle.edge_values.specs.Edge.{Read, read_of, Valued, value_of, Told, told_of, audit_of, shape_of, Saved, saved_of, CodesSet, codes_set_of, CodesAsked, codes_asked_of}
use Rattle.edge_values.specs.Edge.{Celled, celled_of, Pixel, pixel_of, Drawn, drawn_of, Divided, divided_of}

-- 10,000 × 2, for the second form of the edge; 1 for T-08, by which the mean answers otherwise, and 1 for T-04, by which a call that
-- changes a sketch or a cell tells what it lost: as MICROSCOPE_VERSION in the header
abbrev pub version : ℕ
version = 20002

-- A FRESH START AND A LOAD: a clock of time reads its epoch
abbrev pub started_with : (w p : List ℕ) (rows cols t c kind length epoch seed : ℕ) → List ℕ → Started
started_with w p rows cols t c kind length epoch seed g =
    started_of w p (start_call rows cols (params_of t c) (clock_of kind length epoch epoch) seed g)

abbrev pub loaded_from : (w p g store : List ℕ) → Loaded
loaded_from w p g store = loaded_of w p (load_call g store)

-- CALLS THAT CHANGE A SKETCH: one item on a count clock, one item on a clock of time, time that passes, a merge
abbrev pub updated : (w key g : List ℕ) → Changed
updated w key g = changed_of w (update_call (sketch_of w) key g)

abbrev pub updated_at : (w key : List ℕ) (time : ℕ) (g : List ℕ) → Changed
updated_at w key time g = changed_of w (update_at_call (sketch_of w) key time g)

abbrev pub advanced : (w : List ℕ) (time : ℕ) (g : List ℕ) → Changed
advanced w time g = changed_of w (advance_call (sketch_of w) time g)

abbrev pub merged : (w g other g' : List ℕ) → Changed
merged w g other g' = changed_of w (merge_call (sketch_of w) g (sketch_of other) g')

-- CALLS THAT READ ONE
abbrev pub estimated : (w key g : List ℕ) → Read
estimated w key g = read_of (read_call (sketch_of w) key g)

abbrev pub estimated_with : (w key : List ℕ) (fraction : Float) (g : List ℕ) → Read
estimated_with w key fraction g = read_of (read_with_call (sketch_of w) key fraction g)

abbrev pub mean_told : (w key g : List ℕ) → Told
mean_told w key g = let a = mean_call (sketch_of w) key g in told_of a.verdict a.mean

abbrev pub highest_told : (w g : List ℕ) → Told
highest_told w g = let a = highest_call (sketch_of w) g in told_of a.verdict a.zoom

abbrev pub audited : (w g : List ℕ) → Told
audited w g = audit_of (audit_call (sketch_of w) g)

-- STORES
abbrev pub store_length_told : List ℕ → Valued
store_length_told w = let a = length_call (sketch_of w) in value_of a.verdict a.length

abbrev pub saved_as : (w g store : List ℕ) → Saved
saved_as w g store = saved_of (save_call (sketch_of w) g store)

abbrev pub shape_told : List ℕ → Told
shape_told store = shape_of (shape_call store)

-- WATCHED CODES: those to watch from now on, and those that have newly reached their limit
abbrev pub codes_set_by : (w p columns limits kept kept-limits : List ℕ) → CodesSet
codes_set_by w p columns limits kept kept-limits = codes_set_of p (set_call (sketch_of w) (watch_of p) columns limits kept kept-limits)

abbrev pub codes_asked_by : (w p columns limits g list : List ℕ) → CodesAsked
codes_asked_by w p columns limits g list = codes_asked_of p (ask_call (sketch_of w) (watch_of p) columns limits g list)

-- ONE CELL
abbrev pub depth_told : (t c : ℕ) → Valued
depth_told t c = let a = cells.layout_call (params_of t c) in value_of a.verdict a.layout.depth

abbrev pub base_told : ℕ → Valued
base_told c = let a = cells.max_zoom_call (base_of c) in value_of a.verdict a.zoom

abbrev pub zoom_told : (t c : ℕ) → List ℕ → Valued
zoom_told t c b = let a = cells.zoom_call (params_of t c) b in value_of a.verdict a.zoom

abbrev pub shutter_told : (t c : ℕ) → List ℕ → Valued
shutter_told t c b = let a = cells.shutter_call (params_of t c) b in value_of a.verdict a.shutter

abbrev pub pixel_told : (t c n : ℕ) → List ℕ → Pixel
pixel_told t c n b = pixel_of (cells.pixel_call (params_of t c) n b)

abbrev pub inserted : (t c n : ℕ) → List ℕ → ℕ → Celled
inserted t c n b state = celled_of (cells.insert_call (params_of t c) n b state)

abbrev pub entered : (t c n crossed : ℕ) → List ℕ → ℕ → Celled
entered t c n crossed b state = celled_of (cells.cross_call (params_of t c) n crossed b state)

abbrev pub cells_merged : (t c n : ℕ) → List ℕ → List ℕ → ℕ → Celled
cells_merged t c n b b' state = celled_of (cells.merge_call (params_of t c) n b b' state)

-- THE DRAWS
abbrev pub drawn_from : ℕ → Drawn
drawn_from state = drawn_of (draw_call state)

abbrev pub divided_by : (value divisor state : ℕ) → Divided
divided_by value divisor state = divided_of (division_call value divisor state)
