-- Document 01, "Turning a call back", for the block store: the causes of saving and of loading, in the order in which they are told.
use Rattle.std.specs.Prelude.{ℕ, List, [], ◌∷◌, ◌++◌}
use Rattle.refusal.specs.Causes.{Cause, Told, ToldInLoadOrder}
use Rattle.sketch.specs.declared.MicroCm.{MicroCm}
use Rattle.sketch.specs.Sketch.{grid_bytes, all_cells}
use Rattle.sketch.specs.Refusals.{bad_grid, bad_cells}
use Rattle.sketch.specs.Causes.{sketch_causes}
use Rattle.store_header.specs.Header.{sketch_in}
use Rattle.store_header.specs.Causes.{header_causes}
use Rattle.store.specs.Refusals.{other_length, no_blocks, bad_block, bad_fill, grid_in, header_payload, save_verdict, load_verdict}

-- SAVE: 1 to 6, 14 over all cells, 16
abbrev pub save_causes : MicroCm → List ℕ → List ℕ → List Cause
save_causes k g store = sketch_causes k g ++ bad_cells k g (all_cells k) ∷ other_length (grid_bytes k) store ∷ []

-- of a load, behind the header: 16, 18, 6, 14 over the stored cells
abbrev pub grid_causes : MicroCm → List ℕ → List ℕ → List Cause
grid_causes k g store = other_length (grid_bytes k) store ∷ bad_fill (grid_bytes k) store ∷ bad_grid k g ∷ bad_cells k (grid_in k store) (all_cells k) ∷ []

-- LOAD: 16, 17; the header's 18, 1 to 5; 16, 18, 6, 14
abbrev pub load_causes : List ℕ → List ℕ → List Cause
load_causes g store = no_blocks store ∷ bad_block store ∷ header_causes (header_payload store) ++ grid_causes (sketch_in (header_payload store)) g store

-- BOTH are refused by the first of their causes that holds; those of a save stand in the table's order, those of a load in its own
pub record StoreCalls : Type 0 where
  pub save : (k : MicroCm) (g store : List ℕ) → Told (save_verdict k g store) (1 ∷ 2 ∷ 3 ∷ 4 ∷ 5 ∷ 6 ∷ 14 ∷ 16 ∷ []) (save_causes k g store)
  pub load : (g store : List ℕ) → ToldInLoadOrder (load_verdict g store) (load_causes g store)
