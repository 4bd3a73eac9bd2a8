-- What the workers rely on. The public calls have judged it; no public contract cites this file.
use Rattle.std.specs.Prelude.{ℕ, ◌<◌, ◌≡◌, List, get_or}
use Rattle.sketch.specs.declared.MicroCm.{MicroCm}
use Rattle.sketch.specs.Workers.{row_unit}

-- the units of the key's cells, in the first places of a list
abbrev pub Units : MicroCm → List ℕ → List ℕ → ℕ → List ℕ → Type 0
Units k g key rows units = (row : ℕ) → row < rows → get_or units row 0 ≡ row_unit k g key row
