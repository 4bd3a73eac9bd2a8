-- Document 01, "Merge", of two sketches: cell by cell in grid order; only dst's grid and dst's random state change.
use Rattle.std.specs.Prelude.{ℕ, List}
use Rattle.laws.specs.Steps.{Step}
use Rattle.laws.specs.Passes.{each_of}
use Rattle.cell.specs.Cell.{depth_of}
use Rattle.cell.specs.Merge.{merge_of}
use Rattle.clock.specs.Clock.{n_of}
use Rattle.sketch.specs.declared.MicroCm.{MicroCm}
use Rattle.sketch.specs.Sketch.{cells_of, cell_of, World, goes_on}

-- the j-th cell of the other grid merged into the j-th cell
abbrev pub merge_cell : MicroCm → ℕ → List ℕ → ℕ → List ℕ → ℕ → Step
merge_cell k n other j b σ = merge_of k.params.t k.params.c n b (cell_of k other j) σ

unfoldable pub merge_each : MicroCm → ℕ → List ℕ → List ℕ → ℕ → Step
merge_each k n other g σ = each_of (merge_cell k n other) (depth_of k.params.t) 0 (cells_of k) g σ

-- the other grid merged into a sketch of the same shape at the same sub-window
abbrev pub merged : List ℕ → World → World
merged other w =
    goes_on w w.sketch.clock (merge_each w.sketch (n_of w.sketch.clock) other w.grid w.sketch.rounding.state)
