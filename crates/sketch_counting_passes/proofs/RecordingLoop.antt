-- An item goes from row to row: what is left to do from here gives the whole, and the cells of the rows to come are as they were. Assumes nothing.
use Prim.Native.Nat.{ℕ, suc, ◌+◌, ◌*◌, ◌≤◌, ◌<◌}
use mathlib.Core.Path.{◌≡◌, refl, sym, ap, ◌∙◌}
use mathlib.Core.Bool.{true}
use mathlib.Core.List.{List, [], ◌∷◌}
use native.Mathlib.Omega.{arith}
use native.Mathlib.Nat.{add_assoc, zero-add, add-zero, add-mul, le_trans, mul-le-mul_right}
use native.Mathlib.Numerals.{add-one}
use lib.ListN.{length, drop, get_or, drop_of_length-le}
use Rattle.laws.specs.Steps.{Step, followed, made}
use Rattle.cell.specs.declared.Drawn as cell
use Rattle.cell.specs.Cell.{depth_of, sound_of}
use Rattle.cell.specs.Workers.{Fit, step_of}
use Rattle.sketch.specs.declared.MicroCm.{MicroCm}
use Rattle.sketch.specs.declared.Passed.{Passed}
use Rattle.sketch.specs.Sketch.{cells_of, cell_of, cell_index, key_cells, insert_at, insert_each}
use Rattle.sketch.specs.Figures.{key_cell}
use Rattle.sketch.specs.Refusals.{key_fits}
use Rattle.sketch.specs.Audit.{first_unsound}
use Rattle.sketch.specs.Workers.{Ready, Judged, Readable, pass_of}
use Rattle.sketch.proofs.KeyCellLaws.{row_cons}
use Rattle.sketch.proofs.AddressLaws.{key_rows, key_column, key_row}
use Rattle.sketch.proofs.JudgedLaws.{judged_cons, cons_judged}
use Rattle.sketch.proofs.GridLaws.{at_other, at_length, at_light}
use Rattle.sketch_counting_passes.specs.Workers.{passed}

le_suc : (m : ℕ) → m ≤ suc m
le_suc m = omega arith

-- cells that a step leaves as they were stay judged
pub judged_same : (k : MicroCm) (g g' : List ℕ) (first : ℕ) (key : List ℕ) → ((i : ℕ) → first * k.cols ≤ i → cell_of k g' i ≡ cell_of k g i)
    → Judged k g (key_cells k first key) → Judged k g' (key_cells k first key)
unfolding key_cells first_unsound
judged_same k g g' first [] same w = refl
judged_same k g g' first (col ∷ key) same w =
    let parts = judged_cons k g (cell_index k first col) (key_cells k (suc first) key) w in
    cons_judged k g' (cell_index k first col) (key_cells k (suc first) key)
    (rw (same (cell_index k first col) (omega arith)) parts.0)
    (judged_same k g g' (suc first) key (λ i l. same i (le_trans (mul-le-mul_right k.cols (le_suc first)) l)) parts.1)

-- a step before which so much was drawn and lost
abbrev since : ℕ → ℕ → Step → Step
since drawn lost s = made s.bytes s.state (drawn + s.draws) (lost + s.lost)

since_followed : (drawn lost : ℕ) (s r : Step) → since drawn lost (followed s r) ≡ since (drawn + s.draws) (lost + s.lost) r
since_followed drawn lost s r = simp add_assoc

each_cons : (k : MicroCm) (n j : ℕ) (js g : List ℕ) (σ : ℕ) (s : Step) → s ≡ insert_at k n j g σ
    → insert_each k n (j ∷ js) g σ ≡ followed s (insert_each k n js s.bytes s.state)
unfolding insert_each
each_cons k n j js g σ s e = rw e refl

module _ (k : MicroCm) (n : ℕ) (key g₀ : List ℕ) (σ₀ : ℕ) where
  -- the rows before this one are done
  pub record Recording (g : List ℕ) (σ drawn lost row : ℕ) : Type 0 where
    pub done : insert_each k n (key_cells k 0 key) g₀ σ₀ ≡ since drawn lost (insert_each k n (key_cells k row (drop row key)) g σ)
    pub judged : Judged k g (key_cells k row (drop row key))
    pub ready : Ready k (length g)
    pub few : drawn ≤ row * 4098
    pub light : lost ≤ row
    pub most : row ≤ length key

  module _ (g : List ℕ) (σ drawn lost row : ℕ) (w : Recording g σ drawn lost row) where
    pub row_sound : (index : ℕ) → index ≡ key_cell k key row → row < length key → sound_of k.params.t k.params.c (cell_of k g index) ≡ true
    row_sound index e h = rw e (judged_cons k g (key_cell k key row) _ (rw (row_cons k key row h) at w.judged)).0

    module _ (fits : key_fits k key ≡ true) (index : ℕ) (ys : List ℕ) (r : cell.Drawn) (more : row < length key) (ei : index ≡ key_cell k key row)
        (inside : index < cells_of k) (es : step_of ys r ≡ insert_at k n index g σ) where
      fit : Fit k.params.t k.params.c (depth_of k.params.t)
      fit = w.ready.fit

      room : cells_of k * depth_of k.params.t ≤ length g
      room = omega (arith, w.ready.size_is)

      bytes_are : ys ≡ (insert_at k n index g σ).bytes
      bytes_are = ap (λ (s : Step). s.bytes) es

      -- a cell of a later row lies behind this one
      apart : (i : ℕ) → suc row * k.cols ≤ i → i ≡ index → ⊥
      apart i l e =
          let low : get_or key row 0 < k.cols = key_column k key fits row (key_row k key fits row more) in
          omega (arith, add-mul row 1 k.cols, ei)

      -- an item loses one unit a cell at the most
      pub row_light : r.lost ≤ 1
      row_light = omega (arith, ap (λ (s : Step). s.lost) es, at_light k fit n index g σ room inside)

      row_done : r.draws ≤ 4098 → Recording ys r.state (drawn + r.draws) (lost + r.lost) (row + 1)
      row_done few = record {
        done = w.done ∙ ap (λ (js : List ℕ). since drawn lost (insert_each k n js g σ)) (row_cons k key row more) ∙ next;
        judged = rw (add-one, bytes_are) (judged_same k g (insert_at k n index g σ).bytes (suc row) (drop (suc row) key)
            (λ i l. at_other k fit n index g σ room inside i (apart i l))
            (judged_cons k g (key_cell k key row) _ (rw (row_cons k key row more) at w.judged)).1);
        ready = rw (bytes_are, at_length k fit n index g σ room inside) w.ready;
        few = omega (arith, w.few);
        light = omega (arith, w.light, row_light);
        most = omega arith;
      }
        where
          next : since drawn lost (insert_each k n (key_cell k key row ∷ key_cells k (suc row) (drop (suc row) key)) g σ)
              ≡ since (drawn + r.draws) (lost + r.lost) (insert_each k n (key_cells k (row + 1) (drop (row + 1) key)) ys r.state)
          next =
              ap (since drawn lost) (each_cons k n (key_cell k key row) (key_cells k (suc row) (drop (suc row) key)) g σ (step_of ys r) (es ∙ rw ei refl))
              ∙ since_followed drawn lost (step_of ys r) _ ∙ rw add-one refl

      pub recording_on : (d o : ℕ) → d ≡ r.draws → o ≡ r.lost → r.draws ≤ 4098 → Recording ys r.state (drawn + d) (lost + o) (row + 1)
      recording_on d o ed eo few = rw (ed, eo) (row_done few)

    pub recording_end : (r : Passed) → length key ≤ row → r ≡ passed σ drawn lost → pass_of g r ≡ insert_each k n (key_cells k 0 key) g₀ σ₀
    unfolding key_cells insert_each
    recording_end r h e = rw e (sym (w.done ∙ rw (drop_of_length-le key h) (simp add-zero)))

    pub drawn_few : key_fits k key ≡ true → drawn ≤ 128 * 4098
    drawn_few fits = omega (arith, w.few, w.most, key_rows k key fits, w.ready.rows_high)

    pub lost_few : key_fits k key ≡ true → lost ≤ 128
    lost_few fits = omega (arith, w.light, w.most, key_rows k key fits, w.ready.rows_high)
