-- Document 01, "Audit", and the present highest zoom.
use Rattle.std.specs.Prelude.{ℕ, ◌-◌, cond, List, [], ◌∷◌}
use Rattle.laws.specs.Sums.{largest}
use Rattle.cell.specs.Cell.{zoom_of, sound_of}
use Rattle.sketch.specs.declared.MicroCm.{MicroCm}
use Rattle.sketch.specs.declared.Finding.{Finding}
use Rattle.sketch.specs.declared.Finding.TheVariants as finding
use Rattle.sketch.specs.Sketch.{cells_of, all_cells, cell_of}

-- the first unsound cell of a list of cells, with what is said where there is none
unfoldable pub first_unsound {ℓ} : {A : Type ℓ} → (ℕ → A) → A → MicroCm → List ℕ → List ℕ → A
first_unsound found none k g [] = none
first_unsound found none k g (j ∷ js) =
    cond (sound_of k.params.t k.params.c (cell_of k g j)) (first_unsound found none k g js) (found j)

-- AUDIT: sound, or the index of the first unsound cell in grid order
abbrev pub audit_of : MicroCm → List ℕ → Finding
audit_of k g = first_unsound finding.Unsound finding.Sound k g (all_cells k)

-- the present highest zoom of any cell
unfoldable pub highest_zoom : MicroCm → List ℕ → ℕ
highest_zoom k g = largest (cells_of k - 1) (λ j. zoom_of k.params.t (cell_of k g j))
