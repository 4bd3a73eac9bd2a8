-- An item in the order that its sub-window gives: of the old one it is recorded before the cells cross, of the new one after.
use Prim.Native.Nat.{ℕ, suc, ◌-◌}
use mathlib.Core.Path.{◌≡◌, refl, sym, ap, ◌∙◌}
use mathlib.Core.Bool.{not}
use mathlib.Core.List.{List, [], ◌∷◌}
use lib.Dec.{eqb}
use native.Mathlib.Nat.{add-zero, zero-add}
use borrow.Author.Tests.{eq-eqb}
use Rattle.laws.specs.Steps.{Step, still, followed}
use Rattle.clock.specs.declared.SubWindowClock.{SubWindowClock}
use Rattle.clock.specs.Clock.{n_of}
use Rattle.sketch.specs.declared.MicroCm.{MicroCm}
use Rattle.sketch.specs.declared.Passed.{Passed}
use Rattle.sketch.specs.Sketch.{cell_index, key_cells, insert_at, insert_each, cross_each, World, recorded, moved, taking}
use Rattle.sketch.specs.Refusals.{world}
use Rattle.sketch.specs.Workers.{pass_of}
use Rattle.sketch_counting_items.specs.Workers.{SubWindows, windows, cross_if, in_a_row, item_of}
use Rattle.sketch_counting_items.proofs.MoveLaws.{cross_rose}

-- THE STEPS of `in_order`, one after another
module _ (k : MicroCm) (key g : List ℕ) (at : SubWindows) where
  abbrev crossed_first : Step
  crossed_first = cross_if (not (eqb at.own at.old)) k at.old at.new g k.rounding.state

  abbrev inserted : Step → Step
  inserted s = insert_each k at.own (key_cells k 0 key) s.bytes s.state

  abbrev crossed_last : Step → Step
  crossed_last s = cross_if (not (eqb at.new at.own)) k at.old at.new s.bytes s.state

  in_order : (before item last : Step) → before ≡ crossed_first → item ≡ inserted before → last ≡ crossed_last item
      → followed (followed before item) last ≡ item_of k key at g
  unfolding item_of
  in_order before item last eb ei el =
      ap (followed (followed before item)) el
      ∙ ap (λ (s : Step). followed (followed before s) (crossed_last s)) ei
      ∙ ap (λ (s : Step). followed (followed s (inserted s)) (crossed_last (inserted s))) eb

  module _ (before item last r : Passed) (m m' l : List ℕ) where
    pub order_done : pass_of m before ≡ cross_if (not (eqb at.own at.old)) k at.old at.new g k.rounding.state
        → pass_of m' item ≡ insert_each k at.own (key_cells k 0 key) m before.state
        → pass_of l last ≡ cross_if (not (eqb at.new at.own)) k at.old at.new m' item.state
        → r ≡ in_a_row before item last
        → pass_of l r ≡ item_of k key at g
    order_done eb ei el er = rw er (in_order (pass_of m before) (pass_of m' item) (pass_of l last) eb ei el)

-- ANOTHER CLOCK and another state change neither the key's cells nor what a recording does to them
module _ (k : MicroCm) (clock : SubWindowClock) (σ : ℕ) where
  alike_cells : (row : ℕ) (key : List ℕ) → key_cells (taking k clock σ) row key ≡ key_cells k row key
  unfolding key_cells
  alike_cells row [] = refl
  alike_cells row (col ∷ key) = ap (λ (js : List ℕ). cell_index k row col ∷ js) (alike_cells (suc row) key)

  alike_insert : (n : ℕ) (js g : List ℕ) (τ : ℕ) → insert_each (taking k clock σ) n js g τ ≡ insert_each k n js g τ
  unfolding insert_each insert_at
  alike_insert n [] g τ = refl
  alike_insert n (j ∷ js) g τ = rw (alike_insert n js _ _) refl

-- the world that a step leaves
abbrev pub left : MicroCm → SubWindowClock → Step → World
left k clock s = record { sketch = taking k clock s.state; grid = s.bytes; draws = s.draws; lost = s.lost }

module _ (k : MicroCm) (key g : List ℕ) (clock : SubWindowClock) (old new : ℕ) (eo : old ≡ n_of k.clock) (en : new ≡ n_of clock) where
  pub item_first : left k clock (item_of k key (windows old new old) g) ≡ moved clock (recorded key (world k g))
  unfolding moved recorded cross_each
  item_first =
      let item : Step = insert_each k old (key_cells k 0 key) g k.rounding.state in
      let last : Step = cross_each k new (new - old) item.bytes item.state in
      let none : still g k.rounding.state ≡ crossed_first k key g (windows old new old) = rw (eq-eqb old old refl) refl in
      let rose = sym (cross_rose k old new _ refl item.bytes item.state) in
      ap (left k clock) (sym (in_order k key g (windows old new old) (still g k.rounding.state) item last none refl rose))
      ∙ rw (← eo, ← en) refl

  pub item_last : left k clock (item_of k key (windows old new new) g) ≡ recorded key (moved clock (world k g))
  unfolding moved recorded
  item_last =
      let before : Step = cross_each k new (new - old) g k.rounding.state in
      let item : Step = insert_each k new (key_cells k 0 key) before.bytes before.state in
      let rose = sym (cross_rose k old new _ refl g k.rounding.state) in
      let none : still item.bytes item.state ≡ crossed_last k key g (windows old new new) item = rw (eq-eqb new new refl) refl in
      let same = alike_insert k clock before.state new (key_cells k 0 key) before.bytes before.state in
      ap (left k clock) (sym (in_order k key g (windows old new new) before item (still item.bytes item.state) rose refl none))
      ∙ rw (← eo, ← en, alike_cells k clock before.state 0 key, same) (simp (add-zero, zero-add))
