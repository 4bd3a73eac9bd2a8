-- What the workers rely on and leave. The public calls have judged it; no public contract cites this file.
use Rattle.std.specs.Prelude.{ℕ, ◌*◌, ◌^◌, ◌≤◌, ◌<◌, ◌≡◌, true, List, length}
use Rattle.laws.specs.Steps.{Step, made}
use Rattle.laws.specs.Parts.{part}
use Rattle.refusal.specs.declared.Verdict.TheVariants.{Accepted, Unsound}
use Rattle.cell.specs.Cell.{depth_of, unit_of, sound_of}
use Rattle.cell.specs.Workers.{Fit}
use Rattle.clock.specs.declared.SubWindowClock.{SubWindowClock}
use Rattle.clock.specs.Workers.{GoodLength}
use Rattle.sketch.specs.declared.MicroCm.{MicroCm}
use Rattle.sketch.specs.declared.Passed.{Passed}
use Rattle.sketch.specs.declared.SketchAnswer.{SketchAnswer}
use Rattle.sketch.specs.Sketch.{grid_bytes, cell_of, key_cells, taking}
use Rattle.sketch.specs.Figures.{key_cell}
use Rattle.sketch.specs.Refusals.{key_fits}
use Rattle.sketch.specs.Audit.{first_unsound}

-- accepted settings, and a grid of so many bytes that goes with them
pub record Ready (k : MicroCm) (size : ℕ) : Type 0 where
  pub fit : Fit k.params.t k.params.c (depth_of k.params.t)
  pub timed : GoodLength k.clock
  pub rows_low : 1 ≤ k.rows
  pub rows_high : k.rows ≤ 128
  pub cols_low : 2 ≤ k.cols
  pub cols_high : k.cols ≤ 65536
  pub size_is : size ≡ grid_bytes k

-- each of these cells is sound
abbrev pub Judged : MicroCm → List ℕ → List ℕ → Type 0
Judged k g cells = first_unsound Unsound Accepted k g cells ≡ Accepted

-- a key whose cells were judged
pub record Readable (k : MicroCm) (key g : List ℕ) : Type 0 where
  pub ready : Ready k (length g)
  pub fits : key_fits k key ≡ true
  pub judged : Judged k g (key_cells k 0 key)

-- the unit of the key's cell in a row
abbrev pub row_unit : MicroCm → List ℕ → List ℕ → ℕ → ℕ
row_unit k g key row = unit_of k.params.t k.params.c (cell_of k g (key_cell k key row))

-- the grid that a pass leaves, with what it returned beside it
abbrev pub pass_of : List ℕ → Passed → Step
pass_of g r = made g r.state r.draws r.lost

-- the answer of an accepted call: the sketch goes on with this clock, and with the random state that a pass returned
abbrev pub went_on : MicroCm → SubWindowClock → Passed → SketchAnswer
went_on k clock p = record { verdict = Accepted; sketch = taking k clock p.state; draws = p.draws; lost = p.lost }

-- so many cells that were judged, and room for them
pub record SoundCells (t c count : ℕ) (g : List ℕ) : Type 0 where
  pub fit : Fit t c (depth_of t)
  pub few : count ≤ 2 ^ 23
  pub room : count * depth_of t ≤ length g
  pub sound : (i : ℕ) → i < count → sound_of t c (part (i * depth_of t) (depth_of t) g) ≡ true
