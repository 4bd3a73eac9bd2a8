-- A key has one cell in each row, and the cells of two rows are two: so each of its cells is inserted into once, and no other cell is touched.
use Prim.Native.Nat.{ℕ, zero, suc, ◌+◌, ◌*◌, ◌≤◌, ◌<◌}
use mathlib.Core.Path.{◌≡◌, refl, sym, ◌∙◌}
use mathlib.Core.Bool.{true}
use mathlib.Core.List.{List, [], ◌∷◌}
use lib.Arith.{digits_lt}
use lib.ListN.{length, get_or}
use native.Mathlib.Omega.{arith}
use native.Mathlib.Decide.{ℕ_discrete}
use native.Mathlib.Nat.{suc-mul, mul-le-mul_right, add-zero, zero-add}
use borrow.Author.Tests.{lt-ltb}
use Rattle.cell.specs.Insertion.{insert_of}
use Rattle.sketch.specs.declared.MicroCm.{MicroCm}
use Rattle.sketch.specs.Sketch.{cells_of, cell_index, cell_of, key_cells, insert_at, insert_each}
use Rattle.sketch.specs.Refusals.{all_below}
use Rattle.sketch.proofs.GridLaws.{below_first, below_rest, Holding, Fits, at_here, at_other, still_room}

-- the cells of two rows are two
pub rows_apart : (cols r r' a b : ℕ) → r < r' → a < cols → r * cols + a ≡ r' * cols + b → ⊥
rows_apart cols r r' a b h l e =
    let m : suc r * cols ≤ r' * cols = mul-le-mul_right cols h in
    omega (arith, suc-mul r cols)

module _ (k : MicroCm) where
  -- a key's columns, from a row on
  pub record KeyFrom (row : ℕ) (key : List ℕ) : Type 0 where
    pub low : all_below k.cols key ≡ true
    pub few : row + length key ≤ k.rows

  module _ (row x : ℕ) (xs : List ℕ) (h : KeyFrom row (x ∷ xs)) where
    pub place : cell_index k row x < cells_of k
    place = digits_lt (omega (arith, h.few)) (below_first k.cols x xs h.low)

    pub key_rest : KeyFrom (suc row) xs
    key_rest = record { low = below_rest k.cols x xs h.low; few = omega (arith, h.few) }

  pub key_cells_below : (row : ℕ) (key : List ℕ) → KeyFrom row key → all_below (cells_of k) (key_cells k row key) ≡ true
  unfolding key_cells all_below
  key_cells_below row [] h = refl
  key_cells_below row (x ∷ xs) h = rw (lt-ltb (cell_index k row x) (cells_of k) (place row x xs h)) (key_cells_below (suc row) xs (key_rest row x xs h))

module _ (k : MicroCm) (fit : Fits k) where
  module _ (n : ℕ) where
    -- a row before
    rows_before : (row : ℕ) (key g : List ℕ) (σ : ℕ) → KeyFrom k row key → Holding k g → (r col : ℕ) → r < row → col < k.cols
        → cell_of k (insert_each k n (key_cells k row key) g σ).bytes (cell_index k r col) ≡ cell_of k g (cell_index k r col)
    unfolding insert_each key_cells
    rows_before row [] g σ h room r col l q = refl
    rows_before row (x ∷ xs) g σ h room r col l q =
        let s = insert_at k n (cell_index k row x) g σ in
        rows_before (suc row) xs s.bytes s.state (key_rest k row x xs h)
        (still_room k fit n (cell_index k row x) g σ room (place k row x xs h)) r col (omega arith) q
        ∙ at_other k fit n (cell_index k row x) g σ room (place k row x xs h) (cell_index k r col) (rows_apart k.cols r row col x l q)

    -- THE KEY HAS THE CELL
    pub key_hit : (row : ℕ) (key g : List ℕ) (σ : ℕ) → KeyFrom k row key → Holding k g → (i : ℕ) → i < length key
        → (τ : ℕ) × (cell_of k (insert_each k n (key_cells k row key) g σ).bytes (cell_index k (row + i) (get_or key i 0)) ≡ (insert_of k.params.t
        k.params.c n (cell_of k g (cell_index k (row + i) (get_or key i 0))) τ).bytes)
    unfolding insert_each key_cells
    key_hit row [] g σ h room i l = absurd (omega arith)
    key_hit row (x ∷ xs) g σ h room zero l =
        let s = insert_at k n (cell_index k row x) g σ in
        let p = place k row x xs h in (
          σ,
          rw (add-zero row)
              (rows_before (suc row) xs s.bytes s.state (key_rest k row x xs h) (still_room k fit n (cell_index k row x) g σ room p) row x
              (omega arith) (below_first k.cols x xs h.low)
              ∙ at_here k fit n (cell_index k row x) g σ room p),
        )
    key_hit row (x ∷ xs) g σ h room (suc i) l =
        let s = insert_at k n (cell_index k row x) g σ in
        let p = place k row x xs h in
        let q : row + suc i ≡ suc row + i = omega arith in
        let r = key_hit (suc row) xs s.bytes s.state (key_rest k row x xs h) (still_room k fit n (cell_index k row x) g σ room p) i (omega arith) in
        let o : cell_of k s.bytes (cell_index k (suc row + i) (get_or xs i 0)) ≡ cell_of k g (cell_index k (suc row + i) (get_or xs i 0)) =
        at_other k fit n (cell_index k row x) g σ room p (cell_index k (suc row + i) (get_or xs i 0))
        (λ b. rows_apart k.cols row (suc row + i) x (get_or xs i 0) (omega arith) (below_first k.cols x xs h.low) (sym b)) in
        (r.0, rw q (r.1 ∙ rw o refl))

    -- THE KEY HAS IT NOT
    pub key_miss : (row : ℕ) (key g : List ℕ) (σ : ℕ) → KeyFrom k row key → Holding k g → (i col : ℕ) → i < length key → col < k.cols
        → (get_or key i 0 ≡ col → ⊥)
        → cell_of k (insert_each k n (key_cells k row key) g σ).bytes (cell_index k (row + i) col) ≡ cell_of k g (cell_index k (row + i) col)
    unfolding insert_each key_cells
    key_miss row [] g σ h room i col l q ne = absurd (omega arith)
    key_miss row (x ∷ xs) g σ h room zero col l q ne =
        let s = insert_at k n (cell_index k row x) g σ in
        let p = place k row x xs h in
        rw (add-zero row)
        (rows_before (suc row) xs s.bytes s.state (key_rest k row x xs h) (still_room k fit n (cell_index k row x) g σ room p) row col (omega arith) q
        ∙ at_other k fit n (cell_index k row x) g σ room p (cell_index k row col) (λ b. ne (omega arith)))
    key_miss row (x ∷ xs) g σ h room (suc i) col l q ne =
        let s = insert_at k n (cell_index k row x) g σ in
        let p = place k row x xs h in
        let e : row + suc i ≡ suc row + i = omega arith in
        rw e
        (key_miss (suc row) xs s.bytes s.state (key_rest k row x xs h) (still_room k fit n (cell_index k row x) g σ room p) i col (omega arith) q ne
        ∙ at_other k fit n (cell_index k row x) g σ room p (cell_index k (suc row + i) col)
        (λ b. rows_apart k.cols row (suc row + i) x col (omega arith) (below_first k.cols x xs h.low) (sym b)))

    -- EVERY CELL is inserted into, from some state, or stays as it was
    pub inserted_or_kept : (key g : List ℕ) (σ : ℕ) → KeyFrom k 0 key → length key ≡ k.rows → Holding k g → (row col : ℕ) → row < k.rows → col < k.cols
        → (F : List ℕ → Type 0)
        → (get_or key row 0 ≡ col → (τ : ℕ) → F (insert_of k.params.t k.params.c n (cell_of k g (cell_index k row col)) τ).bytes)
        → ((get_or key row 0 ≡ col → ⊥) → F (cell_of k g (cell_index k row col)))
        → F (cell_of k (insert_each k n (key_cells k 0 key) g σ).bytes (cell_index k row col))
    inserted_or_kept key g σ h each room row col in_rows in_cols F hit miss = by (ℕ_discrete (get_or key row 0) col)
      where
        inside : row < length key
        inside = rw each in_rows

        by : Dec (get_or key row 0 ≡ col) → F (cell_of k (insert_each k n (key_cells k 0 key) g σ).bytes (cell_index k row col))
        by (yes e) =
            let is = rw (zero-add row, e) at (key_hit 0 key g σ h room row inside) in
            rw is.1 (hit e is.0)
        by (no ne) = rw (rw (zero-add row) at (key_miss 0 key g σ h room row col inside in_cols ne)) (miss ne)
