-- Document 02, T-01: the causes of setting a list and of asking, a line each, in the order in which they are told.
use Rattle.std.specs.Prelude.{ℕ, List, [], ◌∷◌, ◌++◌}
use Rattle.refusal.specs.Causes.{Cause, Told}
use Rattle.sketch.specs.declared.MicroCm.{MicroCm}
use Rattle.sketch.specs.Refusals.{bad_cells}
use Rattle.sketch.specs.Causes.{numbers_causes, sketch_causes}
use Rattle.codes.specs.declared.Watch.{Watch}
use Rattle.codes.specs.Codes.{watched_cells}
use Rattle.codes.specs.Refusals.{bad_codes, foreign_codes, many_codes, short_list, set_verdict, ask_verdict}

-- SETTING: 1 to 5, 7, 19
abbrev pub set_causes : MicroCm → List ℕ → ℕ → List Cause
set_causes k columns count =
    numbers_causes k ++ bad_codes k columns count ∷ many_codes count ∷ []

-- ASKING: 1 to 6, 7, 19, 20, 14 over the cells of all the codes
abbrev pub ask_causes : MicroCm → Watch → List ℕ → List ℕ → ℕ → List Cause
ask_causes k w columns g room =
    sketch_causes k g
    ++ foreign_codes k w columns ∷ many_codes w.count ∷ short_list w.count room ∷ bad_cells k g (watched_cells k columns w.count) ∷ []

-- BOTH are refused by the first of their causes that holds, and they stand in the table's order
pub record CodeCalls : Type 0 where
  pub set : (k : MicroCm) (columns : List ℕ) (count : ℕ) → Told (set_verdict k columns count) (1 ∷ 2 ∷ 3 ∷ 4 ∷ 5 ∷ 7 ∷ 19 ∷ []) (set_causes k columns count)
  pub ask : (k : MicroCm) (w : Watch) (columns g : List ℕ) (room : ℕ)
      → Told (ask_verdict k w columns g room) (1 ∷ 2 ∷ 3 ∷ 4 ∷ 5 ∷ 6 ∷ 7 ∷ 19 ∷ 20 ∷ 14 ∷ []) (ask_causes k w columns g room)
