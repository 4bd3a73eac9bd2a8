-- Document 01, "Band": a cell's highest zoom, over the fresh cell and every call of the list, with what it holds inside a crossing before zooming in.
use Rattle.std.specs.Prelude.{ℕ, max, cond, List, [], ◌∷◌, eqb}
use Rattle.refusal.specs.Refusals.{when_accepted}
use Rattle.cell.specs.Cell.{zoom_of}
use Rattle.sketch.specs.Sketch.{cell_of, World, begins, inside_at}
use Rattle.band.specs.Calls.{Call, outcome, next}
use Rattle.band.specs.Stages.{Stage, recording, moving, stages_of, done}

-- the zoom of the j-th cell
unfoldable pub zoom_now : World → ℕ → ℕ
zoom_now w j = zoom_of w.sketch.params.t (cell_of w.sketch w.grid j)

-- the zoom that the j-th cell holds inside a stage. In a move that is when clearing is done, from where document 02, T-11 counts the levels that it zooms in.
-- A recording has none: what it leaves is held inside the crossing that follows, or after the call
unfoldable pub zoom_inside : World → Stage → ℕ → ℕ
zoom_inside w (recording key) j = 0
zoom_inside w (moving clock) j = cond (eqb (begins w clock) 0) (zoom_now w j) (zoom_of w.sketch.params.t (inside_at w clock j))

-- the highest that it holds inside these stages
unfoldable pub zoom_through : World → List Stage → ℕ → ℕ
zoom_through w [] j = 0
zoom_through w (stage ∷ stages) j = max (zoom_inside w stage j) (zoom_through (done stage w) stages j)

-- and inside an accepted call
abbrev pub zoom_crossing : World → Call → ℕ → ℕ
zoom_crossing w call j = zoom_through w (stages_of w.sketch.clock call) j

-- THE HIGHEST ZOOM of the j-th cell: now, inside the crossing of each accepted call, and after each call
unfoldable pub peak : World → List Call → ℕ → ℕ
peak w [] j = zoom_now w j
peak w (call ∷ calls) j =
    max (zoom_now w j)
    (max (when_accepted (outcome w call).answer.verdict (zoom_crossing w call j) 0) (peak (next w call) calls j))
