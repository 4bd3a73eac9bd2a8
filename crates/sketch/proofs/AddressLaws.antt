-- A row and a column below their limits make an index below the number of cells, and the cell of such an index lies in the grid.
use Prim.Native.Nat.{ℕ, zero, suc, ◌+◌, ◌*◌, ◌^◌, ◌≤◌, ◌<◌}
use mathlib.Core.Path.{◌≡◌, refl}
use mathlib.Core.Bool.{true}
use mathlib.Core.List.{List, [], ◌∷◌}
use native.Mathlib.Omega.{arith}
use native.Mathlib.Nat.{le_trans, mul-le-mul_left, mul-le-mul_right}
use lib.Arith.{digits_lt}
use lib.Dec.{ltb, eqb}
use lib.ListN.{length, get_or}
use borrow.Author.Tests.{ltb-true, lt-ltb, eqb-true}
use Rattle.laws.proofs.ChoiceLaws.{both_hold}
use Rattle.laws.proofs.PartLaws.{piece_room}
use Rattle.cell.specs.Cell.{depth_of}
use Rattle.sketch.specs.declared.MicroCm.{MicroCm}
use Rattle.sketch.specs.Sketch.{cells_of, grid_bytes}
use Rattle.sketch.specs.Refusals.{all_below, key_fits}
use Rattle.sketch.specs.Workers.{Ready}

-- THE KEY
pub all_below_lem : (m : ℕ) (key : List ℕ) → all_below m key ≡ true → (row : ℕ) → row < length key → get_or key row 0 < m
unfolding all_below
all_below_lem m [] e row h = absurd (omega arith)
all_below_lem m (x ∷ xs) e zero h = ltb-true x m (both_hold (ltb x m) (all_below m xs) e).0
all_below_lem m (x ∷ xs) e (suc row) h = all_below_lem m xs (both_hold (ltb x m) (all_below m xs) e).1 row (omega arith)

pub each_below : (m : ℕ) (key : List ℕ) → ((row : ℕ) → row < length key → get_or key row 0 < m) → all_below m key ≡ true
unfolding all_below
each_below m [] h = refl
each_below m (x ∷ xs) h = rw (lt-ltb x m (h 0 (omega arith))) (each_below m xs (λ row l. h (suc row) (omega arith)))

module _ (k : MicroCm) (key : List ℕ) (fits : key_fits k key ≡ true) where
  pub key_rows : length key ≡ k.rows
  unfolding key_fits
  key_rows = eqb-true _ _ (both_hold (eqb (length key) k.rows) (all_below k.cols key) fits).0

  pub key_column : (row : ℕ) → row < k.rows → get_or key row 0 < k.cols
  unfolding key_fits
  key_column row h =
      all_below_lem k.cols key (both_hold (eqb (length key) k.rows) (all_below k.cols key) fits).1 row (rw key_rows h)

  pub key_row : (row : ℕ) → row < length key → row < k.rows
  key_row row h = omega (arith, key_rows)

-- PRODUCTS of bounded numbers
pub product_le : (a b p q : ℕ) → a ≤ p → b ≤ q → a * b ≤ p * q
product_le a b p q h l = le_trans (mul-le-mul_left a l) (mul-le-mul_right q h)

pub index_fits : (row col rows cols : ℕ) → row < rows → col < cols → rows ≤ 128 → cols ≤ 65536 → row * cols + col < 2 ^ 64
index_fits row col rows cols hr hc most wide = omega (arith, digits_lt hr hc, product_le rows cols 128 65536 most wide)

pub row_fits : (row rows cols : ℕ) → row < rows → rows ≤ 128 → cols ≤ 65536 → row * cols < 2 ^ 64
row_fits row rows cols hr most wide = omega (arith, product_le row cols 128 65536 (omega arith) wide)

pub index_lt : (row col rows cols : ℕ) → row < rows → col < cols → row * cols + col < rows * cols
index_lt row col rows cols hr hc = digits_lt hr hc

-- THE CELLS
module _ (k : MicroCm) (size : ℕ) (ready : Ready k size) where
  pub cells_few : cells_of k ≤ 2 ^ 23
  cells_few = product_le k.rows k.cols 128 65536 ready.rows_high ready.cols_high

  pub cells_fit : k.rows * k.cols < 2 ^ 64
  cells_fit = omega (arith, cells_few)

  pub index_next : (index count : ℕ) → count ≡ cells_of k → index < count → index + 1 < 2 ^ 64
  index_next index count e h = omega (arith, cells_few)

  pub grid_short : grid_bytes k < 2 ^ 36
  grid_short = omega (arith, product_le (cells_of k) (depth_of k.params.t) (2 ^ 23) 4104 cells_few (omega (arith, ready.fit.t_high)))

  module _ (index d : ℕ) (inside : index < cells_of k) (is : d ≡ depth_of k.params.t) where
    pub cell_room : index * d + depth_of k.params.t ≤ size
    cell_room = rw (is, ready.size_is) (piece_room (depth_of k.params.t) (cells_of k) index (grid_bytes k) inside (omega arith))

    pub start_fits : index * d < 2 ^ 64
    start_fits = omega (arith, cell_room, grid_short, ready.size_is)
