-- What a store of unknown origin says of the sketch in it: judged as a load judges blocks, header and length (document 01, "Turning a call
-- back": "buffer empty or no multiple of 512 (16), then 17 over every block, 18 over block 0, 1 to 5, exact block count (16)"), and no further.
use Rattle.std.specs.Prelude.{ℕ, ◌≡◌, List, [], ◌∷◌, ◌++◌, length, take}
use Rattle.refusal.specs.declared.Verdict.{Verdict}
use Rattle.refusal.specs.declared.Verdict.TheVariants.{Accepted}
use Rattle.refusal.specs.Refusals.{when_accepted, and_then}
use Rattle.refusal.specs.Causes.{Cause, first_of, numbers_of, load_order}
use Rattle.sketch.specs.declared.MicroCm.{MicroCm}
use Rattle.sketch.specs.Sketch.{grid_bytes}
use Rattle.store_header.specs.Header.{sketch_in}
use Rattle.store_header.specs.Refusals.{header_verdict}
use Rattle.store_header.specs.Causes.{header_causes}
use Rattle.store.specs.Refusals.{header_payload, no_blocks, bad_block, other_length, refuse_blocks, refuse_length, load_verdict, load_call}
use Rattle.store_shape.specs.declared.ShapeAnswer.{ShapeAnswer}

-- rows, cols, t and c of a sketch and the bytes of its grid; or the verdict, and zeros
abbrev pub shaped : MicroCm → ℕ → ShapeAnswer
shaped k bytes = record { verdict = Accepted; rows = k.rows; cols = k.cols; t = k.params.t; c = k.params.c; grid_bytes = bytes }

abbrev pub shapeless : Verdict → ShapeAnswer
shapeless v = record { verdict = v; rows = 0; cols = 0; t = 0; c = 0; grid_bytes = 0 }

-- 16, 17; the header's 18, 1 to 5; 16
abbrev pub shape_verdict : List ℕ → Verdict
shape_verdict store =
    refuse_blocks store (and_then (header_verdict (header_payload store)) (refuse_length (sketch_in (header_payload store)) store Accepted))

unfoldable pub shape_call : List ℕ → ShapeAnswer
shape_call store =
    let k = sketch_in (header_payload store) in
    when_accepted (shape_verdict store) (shaped k (grid_bytes k)) (shapeless (shape_verdict store))

-- THE CAUSES, in the order in which they are told: the first nine of a load's
abbrev pub shape_causes : List ℕ → List Cause
shape_causes store =
    no_blocks store ∷ bad_block store ∷ header_causes (header_payload store) ++ other_length (grid_bytes (sketch_in (header_payload store))) store ∷ []

-- WHAT IS CLAIMED: it is refused by the first of its causes that holds; and a store that loads has the shape of the sketch that the
-- load gives, with a grid as long as the one that was lent for it
pub record ShapeCalls : Type 0 where
  pub told : (store : List ℕ) → shape_verdict store ≡ first_of (shape_causes store)
  pub numbered : (store : List ℕ) → numbers_of (shape_causes store) ≡ take 9 load_order
  pub loads : (g store : List ℕ) → load_verdict g store ≡ Accepted → shape_call store ≡ shaped (load_call g store).answer.sketch (length g)
