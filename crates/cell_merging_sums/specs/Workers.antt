-- What the sums of a merge are. No public contract cites this file.
use Rattle.std.specs.Prelude.{ℕ, ◌+◌, ◌-◌, List, [], ◌∷◌}
use Rattle.cell_merging_sums.specs.declared.worker.Summed.{Summed}
use Rattle.laws.specs.Steps.{Step, made}
use Rattle.cell.specs.Cell.{pixels_in, zoom_of}
use Rattle.cell.specs.Merge.{add_each, Settled}

-- the pixels of two cells at the target's zoom, added: each lacks the levels from its own zoom up
abbrev pub added_of : (t c target : ℕ) (b src : List ℕ) (σ : ℕ) → Step
added_of t c target b src σ = add_each c (target - zoom_of t b) (target - zoom_of t src) (pixels_in t b) (pixels_in t src) σ

-- pixel by pixel, of cells that lack no level
unfoldable pub flat_sums : List ℕ → List ℕ → List ℕ
flat_sums [] ys = []
flat_sums (x ∷ xs) [] = []
flat_sums (x ∷ xs) (y ∷ ys) = (x + y) ∷ flat_sums xs ys

-- the sums that a worker leaves, with what it returned beside them
abbrev pub settled_of : List ℕ → Summed → Settled
settled_of sums r = record { zoom = r.zoom; sums = made sums r.state r.draws r.lost }
