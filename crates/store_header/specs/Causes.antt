-- Document 01, "Turning a call back", for the header: its causes, in the order in which they are told. A load asks 18 of block 0 before 1 to 5.
use Rattle.std.specs.Prelude.{ℕ, ◌≡◌, List, [], ◌∷◌}
use Rattle.refusal.specs.Causes.{Cause, first_of, Told}
use Rattle.sketch.specs.declared.MicroCm.{MicroCm}
use Rattle.sketch.specs.Causes.{numbers_causes}
use Rattle.store_header.specs.Header.{sketch_in}
use Rattle.store_header.specs.Refusals.{bad_form, header_verdict}
use Rattle.sketch.specs.Refusals.{numbers_verdict}

-- THE HEADER'S ANSWER: 18, 1 to 5
abbrev pub header_causes : List ℕ → List Cause
header_causes p = bad_form p ∷ numbers_causes (sketch_in p)

pub record HeaderCalls : Type 0 where
  -- the length of a store
  pub length : (k : MicroCm) → Told (numbers_verdict k) (1 ∷ 2 ∷ 3 ∷ 4 ∷ 5 ∷ []) (numbers_causes k)
  pub header : (p : List ℕ) → header_verdict p ≡ first_of (header_causes p)
