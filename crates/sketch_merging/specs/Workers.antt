-- What the workers rely on. The public call has judged it; no public contract cites this file.
use Rattle.std.specs.Prelude.{ℕ, ◌*◌, List}
use Rattle.laws.specs.Parts.{part}
use Rattle.laws.specs.Steps.{Step}
use Rattle.cell.specs.Cell.{depth_of}
use Rattle.cell.specs.Merge.{merge_of}

-- the j-th piece of another grid merged into a piece
abbrev pub merge_piece : ℕ → ℕ → ℕ → List ℕ → ℕ → List ℕ → ℕ → Step
merge_piece t c n other j b σ = merge_of t c n b (part (j * depth_of t) (depth_of t) other) σ
