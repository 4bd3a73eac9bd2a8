-- The ways out of the public call. Assumes nothing.
use Prim.Native.Nat.{ℕ}
use mathlib.Core.Path.{◌≡◌}
use mathlib.Core.Bool.{Bool, true, false, not}
use mathlib.Core.List.{List}
use Rattle.refusal.specs.declared.Verdict.{Verdict}
use Rattle.refusal.specs.Refusals.{is_accepted}
use Rattle.rounding.specs.declared.Rounding.{Rounding}
use Rattle.cell.specs.declared.MicroParams.{MicroParams}
use Rattle.cell.specs.declared.CellAnswer.{CellAnswer}
use Rattle.cell.specs.declared.Drawn.{Drawn}
use Rattle.cell.specs.Merge.{merge_of}
use Rattle.cell.specs.Refusals.{cell_outcome, merge_call}
use Rattle.cell.specs.Workers.{turned_back, done_with, step_of}
use Rattle.cell_merging.specs.Workers.{PairJudged}
use Rattle.cell.proofs.CallLaws.{call_turned, call_done}

-- THE CALL
module _ (p : MicroParams) (n : ℕ) (b src : List ℕ) (ρ : Rounding) (v : Verdict) (pair : PairJudged p b src ρ.state v)
    (ok : Bool) (asked : ok ≡ is_accepted v) where
  pub merge_turned : not ok ≡ true → (a : CellAnswer) → a ≡ turned_back v ρ → cell_outcome b a ≡ merge_call p n b src ρ.state
  unfolding merge_call
  merge_turned h a e = call_turned v _ pair.verdict_is ok asked (merge_of p.t p.c n b src ρ.state) b ρ a h e

  module _ (h : not ok ≡ false) where
    pub merge_accepted : (l : List ℕ) (d : Drawn) (a : CellAnswer) → step_of l d ≡ merge_of p.t p.c n b src ρ.state → a ≡ done_with d
        → cell_outcome l a ≡ merge_call p n b src ρ.state
    unfolding merge_call
    merge_accepted l d a e q = call_done v _ pair.verdict_is ok asked (merge_of p.t p.c n b src ρ.state) b ρ a h l d e q
