-- Document 01, "Turning a call back", for the calls on one cell. Each call's answer, whole, and the bytes that it leaves.
use Rattle.std.specs.Prelude.{ℕ, ◌*◌, not, cond, ◌&&◌, List, ltb, eqb, length}
use Rattle.laws.specs.Steps.{Step}
use Rattle.laws.specs.Figure.{figure}
use Rattle.refusal.specs.declared.Verdict.{Verdict}
use Rattle.refusal.specs.declared.Verdict.TheVariants.{Accepted, Unsound}
use Rattle.refusal.specs.Refusals.{outside, when_accepted}
use Rattle.refusal.specs.Causes.{Cause, cause, unsound, refuse_by}
use Rattle.rounding.specs.Refusals.{refuse_state}
use Rattle.cell.specs.declared.MicroParams.{MicroParams}
use Rattle.cell.specs.declared.MicroLayout.{MicroLayout}
use Rattle.cell.specs.declared.ParamsAnswer.{ParamsAnswer}
use Rattle.cell.specs.declared.LayoutAnswer.{LayoutAnswer}
use Rattle.cell.specs.declared.ZoomAnswer.{ZoomAnswer}
use Rattle.cell.specs.declared.ShutterAnswer.{ShutterAnswer}
use Rattle.cell.specs.declared.PixelAnswer.{PixelAnswer}
use Rattle.cell.specs.declared.CellAnswer.{CellAnswer}
use Rattle.cell.specs.Cell.{pixels_of, zoom_at, shutter_at, depth_of, slot_of, pixel_of, zoom_of, shutter_of, unit_of, max_zoom, sound_of}
use Rattle.cell.specs.Insertion.{insert_of}
use Rattle.cell.specs.Crossing.{ceiling_of, cross_of}
use Rattle.cell.specs.Merge.{merge_of}

-- THE CAUSES, each with its number
-- 1: t is not 1 to 4,096
abbrev pub bad_window : MicroParams → Cause
bad_window p = cause 1 (outside 1 4096 p.t)

-- 2: c is not 2 to 256
abbrev pub bad_base : ℕ → Cause
bad_base c = cause 2 (outside 2 256 c)

-- 6: a cell's bytes are not as many as its depth
abbrev pub bad_depth : MicroParams → List ℕ → Cause
bad_depth p b = cause 6 (not (eqb (length b) (depth_of p.t)))

-- 9: 0 < crossed < t + 2 and crossed > new_n
abbrev pub bad_crossing : MicroParams → ℕ → ℕ → Cause
bad_crossing p n crossed = cause 9 (ltb 0 crossed && ltb crossed (pixels_of p.t) && ltb n crossed)

-- 14: the cell is unsound; in a call on one cell the index is 0
abbrev pub bad_cell : MicroParams → List ℕ → Cause
bad_cell p b = unsound 0 (not (sound_of p.t p.c b))

-- A CAUSE, and what is said where it does not hold
abbrev pub refuse_base : ℕ → Verdict → Verdict
refuse_base c rest = refuse_by (bad_base c) rest

-- 1, then 2
abbrev pub refuse_params : MicroParams → Verdict → Verdict
refuse_params p rest = refuse_by (bad_window p) (refuse_base p.c rest)

abbrev pub refuse_depth : MicroParams → List ℕ → Verdict → Verdict
refuse_depth p b rest = refuse_by (bad_depth p b) rest

abbrev pub refuse_crossed : MicroParams → ℕ → ℕ → Verdict → Verdict
refuse_crossed p n crossed rest = refuse_by (bad_crossing p n crossed) rest

abbrev pub refuse_unsound : MicroParams → List ℕ → Verdict → Verdict
refuse_unsound p b rest = cond (sound_of p.t p.c b) rest (Unsound 0)

-- THE SETTINGS
abbrev pub params_verdict : MicroParams → Verdict
params_verdict p = refuse_params p Accepted

unfoldable pub params_call : MicroParams → ParamsAnswer
params_call p = record { verdict = params_verdict p; params = p }

abbrev pub layout_of : MicroParams → MicroLayout
layout_of p =
    record {
      params = p;
      pixels = pixels_of p.t;
      zoom_at = zoom_at p.t;
      shutter_at = shutter_at p.t;
      depth = depth_of p.t;
      zoom_in_ceiling = ceiling_of p.c;
    }

abbrev pub no_layout : MicroParams → MicroLayout
no_layout p = record { params = p; pixels = 0; zoom_at = 0; shutter_at = 0; depth = 0; zoom_in_ceiling = 0 }

unfoldable pub layout_call : MicroParams → LayoutAnswer
layout_call p = record { verdict = params_verdict p; layout = when_accepted (params_verdict p) (layout_of p) (no_layout p) }

abbrev pub max_zoom_verdict : ℕ → Verdict
max_zoom_verdict c = refuse_base c Accepted

unfoldable pub max_zoom_call : ℕ → ZoomAnswer
max_zoom_call c = record { verdict = max_zoom_verdict c; zoom = when_accepted (max_zoom_verdict c) (max_zoom c) 0 }

-- READING A CELL
abbrev pub cell_verdict : MicroParams → List ℕ → Verdict
cell_verdict p b = refuse_params p (refuse_depth p b (refuse_unsound p b Accepted))

unfoldable pub zoom_call : MicroParams → List ℕ → ZoomAnswer
zoom_call p b = record { verdict = cell_verdict p b; zoom = when_accepted (cell_verdict p b) (zoom_of p.t b) 0 }

unfoldable pub shutter_call : MicroParams → List ℕ → ShutterAnswer
shutter_call p b = record { verdict = cell_verdict p b; shutter = when_accepted (cell_verdict p b) (shutter_of p.t b) 0 }

-- the items of the pixel of sub-window n, c ^ Z × the pixel, as f64
unfoldable pub pixel_call : MicroParams → ℕ → List ℕ → PixelAnswer
pixel_call p n b =
    record {
      verdict = cell_verdict p b;
      items = figure (when_accepted (cell_verdict p b) (unit_of p.t p.c b * pixel_of b (slot_of p.t n)) 0);
    }

-- CHANGING A CELL
pub record CellOutcome : Type 0 where
  pub bytes : List ℕ
  pub answer : CellAnswer

abbrev pub cell_outcome : List ℕ → CellAnswer → CellOutcome
cell_outcome b r = record { bytes = b; answer = r }

-- the step if the call is accepted, and all as it was if not
abbrev pub cell_call : Verdict → Step → List ℕ → ℕ → CellOutcome
cell_call v s b σ =
    cell_outcome (when_accepted v s.bytes b)
    (record {
      verdict = v;
      rounding = record { state = when_accepted v s.state σ };
      draws = when_accepted v s.draws 0;
      lost = when_accepted v s.lost 0;
    })

abbrev pub insert_verdict : MicroParams → List ℕ → ℕ → Verdict
insert_verdict p b σ = refuse_params p (refuse_state σ (refuse_depth p b (refuse_unsound p b Accepted)))

unfoldable pub insert_call : MicroParams → ℕ → List ℕ → ℕ → CellOutcome
insert_call p n b σ = cell_call (insert_verdict p b σ) (insert_of p.t p.c n b σ) b σ

abbrev pub cross_verdict : MicroParams → ℕ → ℕ → List ℕ → ℕ → Verdict
cross_verdict p n crossed b σ = refuse_params p (refuse_state σ (refuse_depth p b (refuse_crossed p n crossed (refuse_unsound p b Accepted))))

unfoldable pub cross_call : MicroParams → ℕ → ℕ → List ℕ → ℕ → CellOutcome
cross_call p n crossed b σ = cell_call (cross_verdict p n crossed b σ) (cross_of p.t p.c n crossed b σ) b σ

abbrev pub merge_verdict : MicroParams → List ℕ → List ℕ → ℕ → Verdict
merge_verdict p b src σ =
    refuse_params p (refuse_state σ (refuse_depth p b (refuse_depth p src (refuse_unsound p b (refuse_unsound p src Accepted)))))

-- src is lent to be read only
unfoldable pub merge_call : MicroParams → ℕ → List ℕ → List ℕ → ℕ → CellOutcome
merge_call p n b src σ = cell_call (merge_verdict p b src σ) (merge_of p.t p.c n b src σ) b σ
