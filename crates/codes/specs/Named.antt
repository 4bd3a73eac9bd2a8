-- Document 02, T-09, for an asking, whose keys are its codes: the cells judged are those of all of them.
use Rattle.std.specs.Prelude.{ℕ, ◌<◌, ◌≡◌, List, length}
use Rattle.sketch.specs.declared.MicroCm.{MicroCm}
use Rattle.sketch.specs.Named.{KeyCell, Judges}
use Rattle.codes.specs.declared.Watch.{Watch}
use Rattle.codes.specs.Codes.{code_in}
use Rattle.codes.specs.Refusals.{ask_call}
use Rattle.codes.specs.Causes.{ask_causes}

-- THE CELLS JUDGED: of each code the one in each row
pub record CodeCell (k : MicroCm) (w : Watch) (columns : List ℕ) (j : ℕ) : Type 0 where
  pub code : ℕ
  pub watched : code < w.count
  pub cell : KeyCell k (code_in k.rows columns code) j

-- AN ASKING: the smallest over all the codes, whatever their order
pub record CodeNames : Type 0 where
  pub ask : (k : MicroCm) (w : Watch) (columns limits g list : List ℕ) → length columns ≡ 8192
      → Judges (CodeCell k w columns) k g (ask_causes k w columns g (length list)) (ask_call k w columns limits g list).answer.verdict
