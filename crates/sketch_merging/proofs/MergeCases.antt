-- The two ways out of a merge: turned back, or the pass over all cells. Assumes nothing.
use Prim.Native.Nat.{ℕ}
use mathlib.Core.Path.{◌≡◌, refl, sym, ◌∙◌}
use mathlib.Core.Bool.{Bool, true, false, not}
use mathlib.Core.List.{List}
use native.Mathlib.Nat.{zero-add}
use lib.ListN.{length}
use Rattle.refusal.specs.declared.Verdict.{Verdict}
use Rattle.refusal.specs.declared.Verdict.TheVariants.{Accepted}
use Rattle.refusal.specs.Refusals.{is_accepted}
use Rattle.refusal.proofs.VerdictLaws.{refused_leaves, turned_back_lem, let_pass}
use Rattle.clock.specs.Clock.{n_of}
use Rattle.sketch.specs.declared.MicroCm.{MicroCm}
use Rattle.sketch.specs.declared.Passed.{Passed}
use Rattle.sketch.specs.declared.SketchAnswer.{SketchAnswer}
use Rattle.sketch.specs.Sketch.{cells_of, all_cells}
use Rattle.sketch.specs.Merge.{merge_each, merged}
use Rattle.sketch.specs.Refusals.{sketch_outcome, undrawn, world, merge_verdict, merge_call}
use Rattle.sketch.specs.Workers.{Ready, Judged, SoundCells, pass_of, went_on}
use Rattle.sketch.proofs.MergeAccepted.{accepted_ready, accepted_judged, accepted_other}

module _ (k : MicroCm) (g : List ℕ) (k' : MicroCm) (g' : List ℕ) (v : Verdict) (ev : v ≡ merge_verdict k g k' g') (ok : Bool) (asked : ok ≡ is_accepted v) where
  pub merge_refused : (y : SketchAnswer) → not ok ≡ true → y ≡ undrawn v k → sketch_outcome y g ≡ merge_call k g k' g'
  unfolding merge_call
  merge_refused y h ey =
      let left-as-found = refused_leaves v (merged g' (world k g)) (world k g) (turned_back_lem v ok asked h) in
      rw (ey, ← ev, left-as-found) refl

  module _ (yes : not ok ≡ false) where
    accepted : v ≡ Accepted
    accepted = let_pass v ok asked yes

    pub merge_ready : Ready k (length g)
    merge_ready = accepted_ready k g k' g' (sym ev ∙ accepted)

    pub merge_judged : Judged k g (all_cells k)
    merge_judged = accepted_judged k g k' g' (sym ev ∙ accepted)

    pub merge_other : SoundCells k.params.t k.params.c (cells_of k) g'
    merge_other = accepted_other k g k' g' (sym ev ∙ accepted)

    pub merge_done : (n : ℕ) (p : Passed) (l : List ℕ) (y : SketchAnswer) → n ≡ n_of k.clock → pass_of l p ≡ merge_each k n g' g k.rounding.state
        → y ≡ went_on k k.clock p → sketch_outcome y l ≡ merge_call k g k' g'
    unfolding merge_call
    merge_done n p l y en e ey =
        let e' : merge_each k (n_of k.clock) g' g k.rounding.state ≡ pass_of l p = rw (← en) (sym e) in
        rw (ey, ← ev, accepted, e') (simp zero-add)
