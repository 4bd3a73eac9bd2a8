-- What a call leaves, in the form in which the code comes to it. Assumes nothing.
use Prim.Native.Nat.{ℕ}
use mathlib.Core.Path.{◌≡◌, refl, sym, ◌∙◌}
use mathlib.Core.Bool.{Bool, true, false, not}
use mathlib.Core.List.{List, [], ◌∷◌}
use lib.ListN.{get_or, set}
use lib.Seq.{set-get_or}
use Rattle.refusal.specs.declared.Verdict.{Verdict}
use Rattle.refusal.specs.Refusals.{is_accepted, when_accepted}
use Rattle.refusal.proofs.VerdictLaws.{refused_leaves, turned_back_lem, let_pass}
use Rattle.clock.specs.Clock.{reading_of}
use Rattle.sketch.specs.declared.SketchAnswer.{SketchAnswer}
use Rattle.sketch.specs.declared.Finding.{Finding}
use Rattle.sketch.specs.declared.Finding.TheVariants.{Sound, Unsound}
use Rattle.edge_values.specs.Edge.{words_after, found_of}

-- WHAT A CALL LEFT: refused, all is as it came; accepted, each thing stands in its place
module _ (v : Verdict) (ok : Bool) (asked : ok ≡ is_accepted v) where
  pub left : not ok ≡ true → (after before : List ℕ) → before ≡ when_accepted v after before
  left h after before = sym (refused_leaves v after before (turned_back_lem v ok asked h))

  pub put : not ok ≡ false → (after before l : List ℕ) → l ≡ after → l ≡ when_accepted v after before
  put h after before l e = e ∙ rw (let_pass v ok asked h) refl

module _ (a : SketchAnswer) (ok : Bool) (asked : ok ≡ is_accepted a.verdict) (accepted : not ok ≡ false) (w : List ℕ) (reading : ℕ)
    (is : reading ≡ reading_of a.sketch.clock) where
  pub words_put : set (set w 7 reading) 8 a.sketch.rounding.state ≡ words_after w a
  words_put = rw (let_pass a.verdict ok asked accepted, is) refl

  -- the state is as it was
  pub words_kept : get_or (set w 7 reading) 8 0 ≡ a.sketch.rounding.state → set w 7 reading ≡ words_after w a
  words_kept same =
      let q : set (set w 7 reading) 8 a.sketch.rounding.state ≡ set w 7 reading = rw (← same) (set-get_or (set w 7 reading) 8 0) in
      sym q ∙ words_put

-- THE AUDIT
pub found_none : (f : Finding) → f ≡ Sound → 0 ∷ 0 ∷ [] ≡ found_of f
unfolding found_of
found_none f e = rw e refl

pub found_one : (f : Finding) (j : ℕ) → f ≡ Unsound j → j ∷ 1 ∷ [] ≡ found_of f
unfolding found_of
found_one f j e = rw e refl
