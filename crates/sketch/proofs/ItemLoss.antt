-- What an item loses: the key's cells are of different rows, so each is as the item found it until it is inserted into. Assumes nothing.
use Prim.Native.Nat.{ℕ, suc, ◌+◌, ◌-◌, ◌<◌}
use mathlib.Core.Path.{◌≡◌, refl, sym, ap, ◌∙◌}
use mathlib.Core.List.{List, [], ◌∷◌}
use lib.ListN.{length, get_or}
use native.Mathlib.Omega.{arith}
use native.Mathlib.Nat.{add-zero}
use Rattle.laws.specs.Sums.{total}
use Rattle.laws.proofs.SumLaws.{total_same, total_first}
use Rattle.cell.specs.Lost.{loses_item, one_if}
use Rattle.cell.proofs.LostLaws.{insert_lost}
use Rattle.sketch.specs.declared.MicroCm.{MicroCm}
use Rattle.sketch.specs.Sketch.{cells_of, cell_index, cell_of, key_cells, insert_at, insert_each}
use Rattle.sketch.proofs.GridLaws.{below_first, Holding, Fits, cell_length, fits_cell, at_other, still_room}
use Rattle.sketch.proofs.KeyLaws.{rows_apart, KeyFrom, place, key_rest}

module _ (k : MicroCm) (fit : Fits k) (n : ℕ) where
  -- the key's cell of the i-th row from this one on, in the grid g
  abbrev loss : ℕ → List ℕ → List ℕ → ℕ → ℕ
  loss row key g i = one_if (loses_item k.params.t k.params.c n (cell_of k g (cell_index k (row + i) (get_or key i 0))))

  at_lost : (j : ℕ) (g : List ℕ) (σ : ℕ) → Holding k g → j < cells_of k
      → (insert_at k n j g σ).lost ≡ one_if (loses_item k.params.t k.params.c n (cell_of k g j))
  unfolding insert_at
  at_lost j g σ room l = insert_lost k.params.t k.params.c n (cell_of k g j) σ (fits_cell k fit (cell_of k g j) (cell_length k g j room l))

  pub key_lost : (row x : ℕ) (xs g : List ℕ) (σ : ℕ) → KeyFrom k row (x ∷ xs) → Holding k g
      → (insert_each k n (key_cells k row (x ∷ xs)) g σ).lost ≡ total (length xs) (loss row (x ∷ xs) g)
  unfolding insert_each key_cells total
  key_lost row x [] g σ h room = rw (add-zero row, at_lost (cell_index k row x) g σ room (place k row x [] h)) (add-zero _)
  key_lost row x (y ∷ ys) g σ h room =
      let j = cell_index k row x in
      let s = insert_at k n j g σ in
      let p = place k row x (y ∷ ys) h in
      let rest = key_lost (suc row) y ys s.bytes s.state (key_rest k row x (y ∷ ys) h) (still_room k fit n j g σ room p) in
      let here : loss row (x ∷ y ∷ ys) g 0 ≡ s.lost = rw (add-zero row) (sym (at_lost j g σ room p)) in
      let later : total (length ys) (loss (suc row) (y ∷ ys) s.bytes) ≡ total (length ys) (λ i. loss row (x ∷ y ∷ ys) g (suc i)) =
      total_same (length ys) _ _ (λ i l.
      let e : row + suc i ≡ suc row + i = omega arith in
      let same = at_other k fit n j g σ room p (cell_index k (suc row + i) (get_or (y ∷ ys) i 0))
      (λ q. rows_apart k.cols row (suc row + i) x (get_or (y ∷ ys) i 0) (omega arith) (below_first k.cols x (y ∷ ys) h.low) (sym q)) in
      rw (same, e) refl) in
      ap (λ (m : ℕ). s.lost + m) (rest ∙ later) ∙ sym (total_first (length ys) (loss row (x ∷ y ∷ ys) g) ∙ rw here refl)

  -- a key of one column a row, and there is a row
  pub each_lost : (key g : List ℕ) (σ : ℕ) → KeyFrom k 0 key → length key ≡ k.rows → 0 < k.rows → Holding k g
      → (insert_each k n (key_cells k 0 key) g σ).lost ≡ total (k.rows - 1)
      (λ row. one_if (loses_item k.params.t k.params.c n (cell_of k g (cell_index k row (get_or key row 0)))))
  each_lost [] g σ h each some room = absurd (omega arith)
  each_lost (x ∷ xs) g σ h each some room =
      let e : k.rows - 1 ≡ length xs = omega arith in
      rw e
      (key_lost 0 x xs g σ h room
      ∙ total_same (length xs) _ _ (λ i l. let q : 0 + i ≡ i = omega arith in rw q refl))
