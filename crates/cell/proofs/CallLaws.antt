-- The ways out of the calls, in the form in which the code comes to them: turned back by the verdict, or accepted and done. Assumes nothing.
use Prim.Native.Nat.{ℕ, ◌≤◌}
use mathlib.Core.Path.{◌≡◌, refl, sym, ap, ◌∙◌}
use mathlib.Core.Bool.{Bool, true, false, not, true≢false}
use mathlib.Core.List.{List}
use Rattle.laws.specs.Steps.{Step}
use Rattle.refusal.specs.declared.Verdict.{Verdict}
use Rattle.refusal.specs.declared.Verdict.TheVariants.{Accepted, Refused, Unsound}
use Rattle.refusal.specs.Refusals.{is_accepted}
use Rattle.refusal.proofs.VerdictLaws.{refused_leaves, turned_back_lem, let_pass}
use Rattle.rounding.specs.declared.Rounding.{Rounding}
use Rattle.cell.specs.declared.MicroParams.{MicroParams}
use Rattle.cell.specs.declared.MicroLayout.{MicroLayout}
use Rattle.cell.specs.declared.CellAnswer.{CellAnswer}
use Rattle.cell.specs.declared.Drawn.{Drawn}
use Rattle.cell.specs.Refusals.{params_verdict, layout_of, no_layout, layout_call, cell_outcome, cell_call}
use Rattle.cell.specs.Workers.{turned_back, done_with, step_of}
use Rattle.cell.proofs.JudgingLaws.{settled_t, settled_c}

-- SETTINGS
module _ (p : MicroParams) (v : Verdict) (judged : v ≡ params_verdict p) (ok : Bool) (asked : ok ≡ is_accepted v) where
  pub layout_turned : not ok ≡ true → record { verdict = v; layout = no_layout p } ≡ layout_call p
  unfolding layout_call
  layout_turned h = rw (← judged, refused_leaves v (layout_of p) (no_layout p) (turned_back_lem v ok asked h)) refl

  module _ (h : not ok ≡ false) where
    pub layout_t : p.t ≤ 4096
    layout_t = (settled_t p v judged ok asked h).1

    pub layout_c : 2 ≤ p.c
    layout_c = (settled_c p v judged ok asked h).0

    pub layout_done : (l : MicroLayout) → l ≡ layout_of p → record { verdict = v; layout = l } ≡ layout_call p
    unfolding layout_call
    layout_done l e = rw (← judged, let_pass v ok asked h, e) refl

-- CHANGING A CELL
turned_outcome : (v : Verdict) (s : Step) (b : List ℕ) (ρ : Rounding) (a : CellAnswer) → is_accepted v ≡ false → a ≡ turned_back v ρ
    → cell_outcome b a ≡ cell_call v s b ρ.state
turned_outcome Accepted s b ρ a h e = absurd (true≢false h)
turned_outcome (Refused k) s b ρ a h e = ap (cell_outcome b) e
turned_outcome (Unsound j) s b ρ a h e = ap (cell_outcome b) e

done_outcome : (v : Verdict) (s : Step) (b : List ℕ) (σ : ℕ) (l : List ℕ) (d : Drawn) (a : CellAnswer) → v ≡ Accepted → step_of l d ≡ s → a ≡ done_with d
    → cell_outcome l a ≡ cell_call v s b σ
done_outcome v s b σ l d a h e q = rw (h, ← e) (ap (cell_outcome l) q)

-- a call with the verdict v, which is the definition's w
module _ (v w : Verdict) (same : v ≡ w) (ok : Bool) (asked : ok ≡ is_accepted v) (s : Step) (b : List ℕ) (ρ : Rounding) (a : CellAnswer) where
  pub call_turned : not ok ≡ true → a ≡ turned_back v ρ → cell_outcome b a ≡ cell_call w s b ρ.state
  call_turned h e = turned_outcome v s b ρ a (turned_back_lem v ok asked h) e ∙ ap (λ (x : Verdict). cell_call x s b ρ.state) same

  pub call_done : not ok ≡ false → (l : List ℕ) (d : Drawn) → step_of l d ≡ s → a ≡ done_with d → cell_outcome l a ≡ cell_call w s b ρ.state
  call_done h l d e q = done_outcome w s b ρ.state l d a (sym same ∙ let_pass v ok asked h) e q
