-- The calls from verdict to answer: either way out is what the definition gives there.
use Prim.Native.Nat.{ℕ, ◌-◌}
use mathlib.Core.Path.{◌≡◌, refl, sym, ap, ◌∙◌}
use mathlib.Core.Bool.{Bool, true, false, not}
use mathlib.Core.List.{List}
use native.Mathlib.Omega.{arith}
use native.Mathlib.Nat.{zero-add}
use Rattle.laws.specs.Steps.{Step}
use Rattle.refusal.specs.declared.Verdict.{Verdict}
use Rattle.refusal.specs.declared.Verdict.TheVariants.{Accepted, Refused, Unsound}
use Rattle.refusal.specs.Refusals.{is_accepted, refuse, when_accepted}
use Rattle.refusal.proofs.VerdictLaws.{refused_leaves, turned_back_lem, let_pass}
use Rattle.clock.specs.declared.SubWindowClock.{SubWindowClock}
use Rattle.clock.specs.Clock.{n_of, is_count, tick_of, advance_of}
use Rattle.clock.specs.Workers.{Onward}
use Rattle.sketch.specs.declared.MicroCm.{MicroCm}
use Rattle.sketch.specs.declared.Passed.{Passed}
use Rattle.sketch.specs.declared.SketchAnswer.{SketchAnswer}
use Rattle.sketch.specs.Sketch.{World, cells_of, cross_each, moved, updated, updated_at, advanced}
use Rattle.sketch.specs.Refusals.{sketch_outcome, sketch_call, answered, undrawn, world, item_verdict, move_verdict}
use Rattle.sketch.specs.Refusals.{update_verdict, update_call, update_at_verdict, update_at_call, advance_verdict, advance_call}
use Rattle.sketch.specs.Workers.{pass_of, went_on}
use Rattle.sketch.proofs.GridLaws.{cross_none}
use Rattle.sketch_counting_passes.specs.Workers.{cross_cells, passed}
use Rattle.sketch_counting_items.specs.declared.worker.Counted.{Counted}
use Rattle.sketch_counting_items.specs.Workers.{SubWindows, windows, item_of, item_counted}
use Rattle.sketch_counting.specs.Workers.{counted_answer}
use Rattle.sketch_counting_items.proofs.ItemLaws.{left, item_first, item_last}

-- THE ANSWERS
module _ (k : MicroCm) (g l : List ℕ) (clock : SubWindowClock) (after : World) where
  went_there : (p : Passed) → left k clock (pass_of l p) ≡ after → sketch_outcome (went_on k clock p) l ≡ sketch_call Accepted after (world k g)
  went_there p e = ap (λ (w : World). sketch_outcome (answered Accepted w) w.grid) e

  -- what an item leaves
  item_answered : (key : List ℕ) (at : SubWindows) (r : Counted) → pass_of l r.passed ≡ item_counted r.verdict k key at g
      → left k clock (item_of k key at g) ≡ after → sketch_outcome (counted_answer k clock r) l ≡ sketch_call r.verdict after (world k g)
  item_answered key at r ec done = by r.verdict ec
    where
      untouched : (v : Verdict) → pass_of l r.passed ≡ pass_of g (passed k.rounding.state 0 0)
          → sketch_outcome (undrawn v k) l ≡ sketch_outcome (undrawn v k) g
      untouched v e = ap (λ (s : Step). sketch_outcome (undrawn v k) s.bytes) e

      by : (v : Verdict) → pass_of l r.passed ≡ item_counted v k key at g
          → sketch_outcome (when_accepted v (went_on k clock r.passed) (undrawn v k)) l ≡ sketch_call v after (world k g)
      by Accepted e = went_there r.passed (ap (left k clock) e ∙ done)
      by (Refused n) e = untouched (Refused n) e
      by (Unsound j) e = untouched (Unsound j) e

module _ (k : MicroCm) (g l : List ℕ) (clock : SubWindowClock) (old new : ℕ) (counts : Bool) (y : SketchAnswer)
    (eo : old ≡ n_of k.clock) (ek : counts ≡ is_count k.clock) where
  module _ (key : List ℕ) (r : Counted) (wrong : Bool) (ey : y ≡ counted_answer k clock r) (ev : r.verdict ≡ item_verdict k key g clock (refuse 8 wrong)) where
    pub update_done : Onward k.clock (tick_of k.clock) clock → new ≡ n_of (tick_of k.clock) → wrong ≡ not counts
        → pass_of l r.passed ≡ item_counted r.verdict k key (windows old new old) g → sketch_outcome y l ≡ update_call k key g
    unfolding update_call
    update_done on en eb ec =
        let after : World = updated key (world k g) in
        let told : r.verdict ≡ update_verdict k key g = ev ∙ rw (eb, on.is, ek) refl in
        let there : new ≡ n_of clock = en ∙ rw on.is refl in
        let done : left k clock (item_of k key (windows old new old) g) ≡ after = item_first k key g clock old new eo there ∙ rw on.is refl in
        rw ey (item_answered k g l clock after key (windows old new old) r ec done ∙ ap (λ (v : Verdict). sketch_call v after (world k g)) told)

    pub update_at_done : (timestamp : ℕ) → Onward k.clock (advance_of k.clock timestamp) clock → new ≡ n_of clock → wrong ≡ counts
        → pass_of l r.passed ≡ item_counted r.verdict k key (windows old new new) g → sketch_outcome y l ≡ update_at_call k key timestamp g
    unfolding update_at_call
    update_at_done timestamp on en eb ec =
        let after : World = updated_at key timestamp (world k g) in
        let told : r.verdict ≡ update_at_verdict k key timestamp g = ev ∙ rw (eb, on.is, ek) refl in
        let done : left k clock (item_of k key (windows old new new) g) ≡ after = item_last k key g clock old new eo en ∙ rw on.is refl in
        rw ey (item_answered k g l clock after key (windows old new new) r ec done ∙ ap (λ (v : Verdict). sketch_call v after (world k g)) told)

-- `advance_to`
module _ (k : MicroCm) (g : List ℕ) (clock : SubWindowClock) (timestamp : ℕ) (v : Verdict) (counts : Bool) where
  -- the verdict, and why it is the call's
  advance_told : v ≡ move_verdict k g clock (refuse 8 counts) → counts ≡ is_count k.clock
      → Onward k.clock (advance_of k.clock timestamp) clock → v ≡ advance_verdict k timestamp g
  advance_told ev ek on = ev ∙ rw (on.is, ek) refl

  module _ (y : SketchAnswer) (ok : Bool) where
    pub advance_refused : y ≡ undrawn v k → ok ≡ is_accepted v → not ok ≡ true → v ≡ move_verdict k g clock (refuse 8 counts)
        → counts ≡ is_count k.clock → Onward k.clock (advance_of k.clock timestamp) clock
        → sketch_outcome y g ≡ advance_call k timestamp g
    unfolding advance_call
    advance_refused ey asked h ev ek on =
        let left-as-found = refused_leaves v (advanced timestamp (world k g)) (world k g) (turned_back_lem v ok asked h) in
        rw (ey, ← advance_told ev ek on, left-as-found) refl

    module _ (l : List ℕ) (p : Passed) (old new : ℕ) where
      pub advance_crossed : y ≡ went_on k clock p → pass_of l p ≡ cross_cells k.params.t k.params.c (cells_of k) new (new - old) g k.rounding.state
          → v ≡ move_verdict k g clock (refuse 8 counts) → ok ≡ is_accepted v → not ok ≡ false
          → counts ≡ is_count k.clock → Onward k.clock (advance_of k.clock timestamp) clock
          → old ≡ n_of k.clock → new ≡ n_of clock → sketch_outcome y l ≡ advance_call k timestamp g
      unfolding advance_call moved cross_each
      advance_crossed ey ep ev asked a ek on eo en =
          let there : left k clock (pass_of l p) ≡ moved clock (world k g) = ap (left k clock) ep ∙ rw (← eo, ← en) (simp zero-add) in
          rw (ey, ← advance_told ev ek on, let_pass v ok asked a)
          (went_there k g l clock (advanced timestamp (world k g)) p (there ∙ rw on.is refl))

    pub advance_stays : (p : Passed) (old new : ℕ) → y ≡ went_on k clock p → p ≡ passed k.rounding.state 0 0
        → v ≡ move_verdict k g clock (refuse 8 counts) → ok ≡ is_accepted v → not ok ≡ false
        → counts ≡ is_count k.clock → Onward k.clock (advance_of k.clock timestamp) clock
        → old ≡ n_of k.clock → new ≡ n_of clock → new ≡ old → sketch_outcome y g ≡ advance_call k timestamp g
    unfolding cross_each
    advance_stays p old new ey ep ev asked a ek on eo en e =
        let none : new - old ≡ 0 = omega (arith, e) in
        let still-there : pass_of g p ≡ cross_each k new (new - old) g k.rounding.state = rw (ep, none) (sym (cross_none k new g k.rounding.state)) in
        advance_crossed g p old new ey still-there ev asked a ek on eo en
