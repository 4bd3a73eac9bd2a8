-- Document 01, "Turning a call back", call by call: the causes of each call on one cell, a line each, in the order in which they are told.
-- The causes themselves, with number and condition, stand in Refusals.
use Rattle.std.specs.Prelude.{ℕ, List, [], ◌∷◌, ◌++◌}
use Rattle.refusal.specs.Causes.{Cause, Told}
use Rattle.rounding.specs.Refusals.{no_state}
use Rattle.cell.specs.declared.MicroParams.{MicroParams}
use Rattle.cell.specs.Refusals.{bad_window, bad_base, bad_depth, bad_crossing, bad_cell, params_verdict, max_zoom_verdict, cell_verdict, insert_verdict}
use Rattle.cell.specs.Refusals.{cross_verdict, merge_verdict}

-- SETTINGS, and the layout of a cell: 1, 2
abbrev pub params_causes : MicroParams → List Cause
params_causes p = bad_window p ∷ bad_base p.c ∷ []

-- THE LARGEST ZOOM of a base: 2
abbrev pub max_zoom_causes : ℕ → List Cause
max_zoom_causes c = bad_base c ∷ []

-- READING A CELL: 1, 2, 6, 14
abbrev pub cell_causes : MicroParams → List ℕ → List Cause
cell_causes p b = params_causes p ++ bad_depth p b ∷ bad_cell p b ∷ []

-- INSERTION: 1, 2, 5, 6, 14
abbrev pub insert_causes : MicroParams → List ℕ → ℕ → List Cause
insert_causes p b σ = params_causes p ++ no_state σ ∷ bad_depth p b ∷ bad_cell p b ∷ []

-- CROSSING: 1, 2, 5, 6, 9, 14
abbrev pub cross_causes : MicroParams → ℕ → ℕ → List ℕ → ℕ → List Cause
cross_causes p n crossed b σ = params_causes p ++ no_state σ ∷ bad_depth p b ∷ bad_crossing p n crossed ∷ bad_cell p b ∷ []

-- MERGE: 1, 2, 5, 6 for either cell, 14 for either cell
abbrev pub merge_causes : MicroParams → List ℕ → List ℕ → ℕ → List Cause
merge_causes p b src σ = params_causes p ++ no_state σ ∷ bad_depth p b ∷ bad_depth p src ∷ bad_cell p b ∷ bad_cell p src ∷ []

-- EVERY CALL on a cell is refused by the first of its causes that holds, and they stand in the table's order
pub record CellCalls : Type 0 where
  pub params : (p : MicroParams) → Told (params_verdict p) (1 ∷ 2 ∷ []) (params_causes p)
  pub max_zoom_lem : (c : ℕ) → Told (max_zoom_verdict c) (2 ∷ []) (max_zoom_causes c)
  pub read : (p : MicroParams) (b : List ℕ) → Told (cell_verdict p b) (1 ∷ 2 ∷ 6 ∷ 14 ∷ []) (cell_causes p b)
  pub insert : (p : MicroParams) (b : List ℕ) (σ : ℕ) → Told (insert_verdict p b σ) (1 ∷ 2 ∷ 5 ∷ 6 ∷ 14 ∷ []) (insert_causes p b σ)
  pub cross : (p : MicroParams) (n crossed : ℕ) (b : List ℕ) (σ : ℕ) → Told (cross_verdict p n crossed b σ) (1 ∷ 2 ∷ 5 ∷ 6 ∷ 9 ∷ 14 ∷ [])
      (cross_causes p n crossed b σ)
  pub merge : (p : MicroParams) (b src : List ℕ) (σ : ℕ) → Told (merge_verdict p b src σ) (1 ∷ 2 ∷ 5 ∷ 6 ∷ 6 ∷ 14 ∷ 14 ∷ []) (merge_causes p b src σ)
