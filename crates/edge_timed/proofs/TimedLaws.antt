-- An item on a clock of time at the edge is the core's call between two changes of form. Assumes nothing.
use Prim.Native.Nat.{ℕ}
use mathlib.Core.Path.{◌≡◌, ◌∙◌}
use mathlib.Core.List.{List}
use Rattle.refusal.specs.Refusals.{number_of}
use Rattle.sketch.specs.declared.MicroCm.{MicroCm}
use Rattle.sketch.specs.declared.SketchAnswer.{SketchAnswer}
use Rattle.sketch.specs.Refusals.{sketch_outcome, update_at_call}
use Rattle.edge_values.specs.Edge.{sketch_of, words_after, change_of, changed}
use Rattle.edge.specs.Calls.{updated_at}
use Rattle.edge.proofs.EdgeLaws.{put}

module _ (w w' l : List ℕ) (k : MicroCm) (ek : k ≡ sketch_of w) (a : SketchAnswer) (g' : List ℕ) (r : ℕ)
    (left : (r ≡ number_of a.verdict) × (w' ≡ words_after w a) × (l ≡ change_of a.verdict a.draws a.lost)) where
  pub update_at_put : (key : List ℕ) (time : ℕ) (g : List ℕ) → sketch_outcome a g' ≡ update_at_call k key time g
      → changed r w' g' l ≡ updated_at w key time g
  update_at_put key time g e = put w w' l k ek a g' r left (update_at_call (sketch_of w) key time g) (e ∙ rw ek)
