-- A search finds one cell or none: an audit and a verdict of 14 tell the same search in two ways. Assumes nothing.
use Prim.Native.Nat.{ℕ}
use mathlib.Core.Path.{◌≡◌, refl, sym, ap, ◌∙◌}
use mathlib.Core.Bool.{Bool, true, false, cond}
use mathlib.Core.List.{List, [], ◌∷◌}
use Rattle.refusal.specs.declared.Verdict.{Verdict}
use Rattle.refusal.specs.declared.Verdict.TheVariants.{Accepted, Unsound}
use Rattle.refusal.specs.Refusals.{is_accepted, index_of}
use Rattle.sketch.specs.declared.MicroCm.{MicroCm}
use Rattle.sketch.specs.declared.Finding.{Finding}
use Rattle.sketch.specs.declared.Finding.TheVariants as finding
use Rattle.sketch.specs.Sketch.{all_cells}
use Rattle.sketch.specs.Audit.{first_unsound, audit_of}
use Rattle.sketch.specs.Refusals.{refuse_unsound}
use Rattle.sketch.specs.Acceptance.{sound_at}

-- A SEARCH finds one or none, and what it says of either is told afterwards
pub search_is {ℓ} : {A : Type ℓ} (found : ℕ → A) (none : A) (k : MicroCm) (g cells : List ℕ)
    → first_unsound found none k g cells ≡ cond (first_unsound (λ j. true) false k g cells) (found (first_unsound (λ j. j) 0 k g cells)) none
unfolding first_unsound
search_is found none k g [] = refl
search_is found none k g (j ∷ js) = by (sound_at k g j) (search_is found none k g js)
  where
    by : (x : Bool) → first_unsound found none k g js ≡ cond (first_unsound (λ i. true) false k g js) (found (first_unsound (λ i. i) 0 k g js)) none
        → cond x (first_unsound found none k g js) (found j)
        ≡ cond (cond x (first_unsound (λ i. true) false k g js) true) (found (cond x (first_unsound (λ i. i) 0 k g js) j)) none
    by true e = e
    by false e = refl

module _ (k : MicroCm) (g : List ℕ) where
  abbrev told : Verdict → Finding
  told v = cond (is_accepted v) finding.Sound (finding.Unsound (index_of v))

  told_alike : (some : Bool) (j : ℕ) → cond some (finding.Unsound j) finding.Sound ≡ told (cond some (Unsound j) Accepted)
  told_alike true j = refl
  told_alike false j = refl

  pub audit_told : (v : Verdict) → v ≡ refuse_unsound k g (all_cells k) Accepted → audit_of k g ≡ cond (is_accepted v) finding.Sound (finding.Unsound (index_of v))
  audit_told v ev =
      search_is finding.Unsound finding.Sound k g (all_cells k)
      ∙ told_alike (first_unsound (λ j. true) false k g (all_cells k)) (first_unsound (λ j. j) 0 k g (all_cells k))
      ∙ ap told (sym (ev ∙ search_is Unsound Accepted k g (all_cells k)))
