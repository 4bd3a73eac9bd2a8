-- The loops that judge cells: what is left to judge from here on decides, since all before it is sound. Assumes nothing.
use Prim.Native.Nat.{ℕ, suc, ◌+◌, ◌-◌, ◌*◌, ◌≤◌, ◌<◌}
use mathlib.Core.Path.{◌≡◌, refl, sym, ap, ◌∙◌}
use mathlib.Core.Bool.{Bool, true, false, not}
use mathlib.Core.List.{List, ◌∷◌}
use native.Mathlib.Omega.{arith}
use native.Mathlib.Nat.{add-sub_cancel_left, sub-zero}
use native.Mathlib.Numerals.{add-one}
use lib.ListN.{length, take, drop, drop_of_length-le}
use borrow.Author.Tests.{not-true, not-false}
use Rattle.refusal.specs.declared.Verdict.{Verdict}
use Rattle.refusal.specs.declared.Verdict.TheVariants.{Accepted, Unsound}
use Rattle.cell.specs.Cell.{depth_of, sound_of}
use Rattle.sketch.specs.declared.MicroCm.{MicroCm}
use Rattle.sketch.specs.Sketch.{cells_of, cell_of, key_cells, count_from, all_cells}
use Rattle.sketch.specs.Figures.{key_cell}
use Rattle.sketch.specs.Audit.{first_unsound}
use Rattle.sketch.proofs.KeyCellLaws.{row_cons}

module _ (k : MicroCm) (g : List ℕ) where
  abbrev sound_at : ℕ → Bool
  sound_at j = sound_of k.params.t k.params.c (cell_of k g j)

  -- the part that is lent is the cell
  pub sound_lent : (index start d : ℕ) (r : Bool) → start ≡ index * depth_of k.params.t → d ≡ depth_of k.params.t
      → r ≡ sound_of k.params.t k.params.c (take (start + d - start) (drop start g)) → r ≡ sound_at index
  sound_lent index start d r es ed e = e ∙ rw (es, ed, add-sub_cancel_left) refl

  abbrev pub verdict_of : List ℕ → Verdict
  verdict_of cells = first_unsound Unsound Accepted k g cells

  cell_first : (j : ℕ) (js : List ℕ) → sound_at j ≡ true → verdict_of (j ∷ js) ≡ verdict_of js
  unfolding first_unsound
  cell_first j js e = rw e refl

  cell_bad : (j : ℕ) (js : List ℕ) → sound_at j ≡ false → verdict_of (j ∷ js) ≡ Unsound j
  unfolding first_unsound
  cell_bad j js e = rw e refl

  -- THE KEY'S CELLS from a row on
  module _ (key : List ℕ) where
    pub record KeyLeft (row : ℕ) : Type 0 where
      pub same : verdict_of (key_cells k 0 key) ≡ verdict_of (key_cells k row (drop row key))

    pub key_begin : KeyLeft 0
    key_begin = record { same = refl }

    module _ (row : ℕ) (w : KeyLeft row) where
      module _ (more : row < length key) (index : ℕ) (ei : index ≡ key_cell k key row) (ok : Bool) (eo : ok ≡ sound_at index) where
        pub key_found : not ok ≡ true → Unsound index ≡ first_unsound Unsound Accepted k g (key_cells k 0 key)
        key_found n = sym (w.same ∙ ap verdict_of (row_cons k key row more) ∙ cell_bad (key_cell k key row) _ (rw (← ei, ← eo) (not-true ok n)) ∙ ap Unsound (sym ei))

        pub key_on : not ok ≡ false → KeyLeft (row + 1)
        key_on n =
            record { same = w.same ∙ ap verdict_of (row_cons k key row more) ∙ cell_first (key_cell k key row) _ (rw (← ei, ← eo) (not-false ok n)) ∙ rw add-one refl }

      pub key_end : length key ≤ row → Accepted ≡ first_unsound Unsound Accepted k g (key_cells k 0 key)
      unfolding first_unsound key_cells
      key_end h = sym (w.same ∙ rw (drop_of_length-le key h) refl)

  -- EVERY CELL from an index on
  pub record AllLeft (count index : ℕ) : Type 0 where
    pub same : verdict_of (count_from 0 count) ≡ verdict_of (count_from index (count - index))
    pub most : index ≤ count

  pub all_begin : (count : ℕ) → AllLeft count 0
  all_begin count = record { same = rw sub-zero refl; most = omega arith }

  module _ (count index : ℕ) (w : AllLeft count index) where
    count_cons : index < count → count_from index (count - index) ≡ index ∷ count_from (index + 1) (count - (index + 1))
    unfolding count_from
    count_cons h =
        let e : count - index ≡ suc (count - (index + 1)) = omega arith in
        rw (e, add-one) refl

    module _ (more : index < count) (ok : Bool) (eo : ok ≡ sound_at index) where
      pub all_found : count ≡ cells_of k → not ok ≡ true → Unsound index ≡ first_unsound Unsound Accepted k g (all_cells k)
      all_found ec n =
          let all : verdict_of (all_cells k) ≡ verdict_of (count_from index (count - index)) = rw (← ec) w.same in
          sym (all ∙ ap verdict_of (count_cons more) ∙ cell_bad index _ (rw (← eo) (not-true ok n)))

      pub all_on : not ok ≡ false → AllLeft count (index + 1)
      all_on n = record { same = w.same ∙ ap verdict_of (count_cons more) ∙ cell_first index _ (rw (← eo) (not-false ok n)); most = omega arith }

    pub all_end : count ≡ cells_of k → count ≤ index → Accepted ≡ first_unsound Unsound Accepted k g (all_cells k)
    unfolding first_unsound count_from
    all_end ec h =
        let e : count - index ≡ 0 = omega arith in
        let all : verdict_of (all_cells k) ≡ verdict_of (count_from index (count - index)) = rw (← ec) w.same in
        sym (all ∙ rw e refl)
