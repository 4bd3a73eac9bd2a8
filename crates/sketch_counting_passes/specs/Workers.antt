-- What the passes over a grid leave. No public contract cites this file.
use Rattle.std.specs.Prelude.{ℕ, List}
use Rattle.laws.specs.Steps.{Step}
use Rattle.laws.specs.Passes.{each_of}
use Rattle.cell.specs.Cell.{depth_of}
use Rattle.cell.specs.Crossing.{cross_of}
use Rattle.sketch.specs.declared.Passed.{Passed}

-- a cell crosses, whatever its index
abbrev pub cross_piece : ℕ → ℕ → ℕ → ℕ → ℕ → List ℕ → ℕ → Step
cross_piece t c n crossed j b σ = cross_of t c n crossed b σ

-- and so many of them, in grid order
abbrev pub cross_cells : ℕ → ℕ → ℕ → ℕ → ℕ → List ℕ → ℕ → Step
cross_cells t c count n crossed g σ = each_of (cross_piece t c n crossed) (depth_of t) 0 count g σ

-- the random state after a pass, how many draws it made, and how many units it lost
abbrev pub passed : ℕ → ℕ → ℕ → Passed
passed σ drawn lost = record { state = σ; draws = drawn; lost = lost }
