-- The ways out of the public call: turned back by the verdict, or accepted and done. Assumes nothing.
use Prim.Native.Nat.{ℕ}
use mathlib.Core.Path.{◌≡◌}
use mathlib.Core.Bool.{Bool, true, false, not}
use mathlib.Core.List.{List}
use Rattle.refusal.specs.Refusals.{is_accepted}
use Rattle.rounding.specs.declared.Rounding.{Rounding}
use Rattle.cell.specs.declared.MicroParams.{MicroParams}
use Rattle.cell.specs.declared.CellAnswer.{CellAnswer}
use Rattle.cell.specs.declared.Drawn.{Drawn}
use Rattle.cell.specs.declared.Held.{Held}
use Rattle.cell.specs.Crossing.{cross_of}
use Rattle.cell.specs.Refusals.{cell_outcome, cross_call}
use Rattle.cell.specs.Workers.{turned_back, done_with, step_of}
use Rattle.cell_crossing.specs.Workers.{CrossingHeld}
use Rattle.cell.proofs.CallLaws.{call_turned, call_done}

module _ (p : MicroParams) (n crossed : ℕ) (b : List ℕ) (ρ : Rounding) (r : Held) (held : CrossingHeld p n crossed b ρ.state r)
    (ok : Bool) (asked : ok ≡ is_accepted r.verdict) where
  pub cross_turned : not ok ≡ true → (a : CellAnswer) → a ≡ turned_back r.verdict ρ → cell_outcome b a ≡ cross_call p n crossed b ρ.state
  unfolding cross_call
  cross_turned h a e = call_turned r.verdict _ held.verdict_is ok asked (cross_of p.t p.c n crossed b ρ.state) b ρ a h e

  module _ (h : not ok ≡ false) where
    pub cross_accepted : (l : List ℕ) (d : Drawn) (a : CellAnswer) → step_of l d ≡ cross_of p.t p.c n crossed b ρ.state → a ≡ done_with d
        → cell_outcome l a ≡ cross_call p n crossed b ρ.state
    unfolding cross_call
    cross_accepted l d a e q = call_done r.verdict _ held.verdict_is ok asked (cross_of p.t p.c n crossed b ρ.state) b ρ a h l d e q
