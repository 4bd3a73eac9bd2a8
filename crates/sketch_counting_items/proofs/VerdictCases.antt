-- The ways through a verdict on an item or a move: the sketch and the key, then what is asked between 7 and 14, then the cells. Assumes nothing.
use Prim.Native.Nat.{ℕ}
use mathlib.Core.Path.{◌≡◌, refl, sym, ◌∙◌}
use mathlib.Core.Bool.{Bool, true, false, not}
use mathlib.Core.List.{List, []}
use lib.Dec.{eqb}
use lib.ListN.{length}
use borrow.Author.Tests.{not-true, not-false}
use Rattle.refusal.specs.declared.Verdict.{Verdict}
use Rattle.refusal.specs.declared.Verdict.TheVariants.{Accepted}
use Rattle.refusal.specs.Refusals.{is_accepted, refuse}
use Rattle.refusal.proofs.VerdictLaws.{let_pass, refuse_then}
use Rattle.refusal.proofs.GateLaws.{Gate, gate_chain, gate_open}
use Rattle.clock.specs.declared.SubWindowClock.{SubWindowClock}
use Rattle.clock.specs.Clock.{n_of}
use Rattle.sketch.specs.declared.MicroCm.{MicroCm}
use Rattle.sketch.specs.Refusals.{key_fits, refuse_sketch, refuse_key, refuse_unsound, judged_cells, sketch_verdict, move_verdict}
use Rattle.sketch.specs.Audit.{first_unsound}
use Rattle.sketch.specs.Workers.{Ready}
use Rattle.sketch.proofs.ReadyLaws.{ready_of, keyed_ready}
use Rattle.sketch.proofs.SketchGates.{sketch_gate}
use Rattle.sketch_counting_items.specs.Workers.{crosses_to}

-- 1 to 7
abbrev pub keyed : MicroCm → List ℕ → List ℕ → Verdict → Verdict
keyed k key g rest = refuse_sketch k g (refuse_key k key rest)

pub keyed_gate : (k : MicroCm) (key g : List ℕ) → Gate (keyed k key g)
keyed_gate k key g = gate_chain (refuse_sketch k g) (refuse_key k key) (sketch_gate k g) (refuse_then 7 (not (key_fits k key)))

-- CELLS: these where n stays
module _ (k : MicroCm) (g : List ℕ) (after : SubWindowClock) (rises : Bool) (er : rises ≡ crosses_to k after) (cells : List ℕ) where
  cells_stay : rises ≡ false → refuse_unsound k g (judged_cells k after cells) Accepted ≡ refuse_unsound k g cells Accepted
  cells_stay h = rw (not-false (eqb (n_of after) (n_of k.clock)) (sym er ∙ h)) refl

-- AN ITEM
module _ (k : MicroCm) (key g : List ℕ) (after : SubWindowClock) (number : ℕ) (holds : Bool) (v : Verdict) (ev : v ≡ keyed k key g Accepted)
    (ok : Bool) (asked : ok ≡ is_accepted v) where
  module _ (a : not ok ≡ false) where
    passed : keyed k key g Accepted ≡ Accepted
    passed = sym ev ∙ let_pass v ok asked a

    pub item_ready : Ready k (length g)
    item_ready = (keyed_ready k key g passed).0

    pub item_fits : key_fits k key ≡ true
    item_fits = (keyed_ready k key g passed).1

-- NO ITEM
module _ (k : MicroCm) (g : List ℕ) (after : SubWindowClock) (number : ℕ) (holds : Bool) (v : Verdict) (ev : v ≡ sketch_verdict k g)
    (ok : Bool) (asked : ok ≡ is_accepted v) where
  module _ (a : not ok ≡ false) where
    pub movement_ready : Ready k (length g)
    movement_ready = ready_of k g (sym ev ∙ let_pass v ok asked a)

    movement_left : move_verdict k g after (refuse number holds) ≡ refuse number holds (refuse_unsound k g (judged_cells k after []) Accepted)
    movement_left = gate_open (refuse_sketch k g) (sketch_gate k g) _ (sym ev ∙ let_pass v ok asked a)

    module _ (none : holds ≡ false) (rises : Bool) (er : rises ≡ crosses_to k after) where
      pub movement_none : not rises ≡ true → v ≡ move_verdict k g after (refuse number holds)
      unfolding first_unsound
      movement_none h = let_pass v ok asked a ∙ sym (movement_left ∙ rw none (cells_stay k g after rises er [] (not-true rises h)))
