-- The ways through the judges of the settings and the key, in the form in which the code comes to them. Assumes nothing.
use Prim.Native.Nat.{ℕ, zero, suc, ◌+◌, ◌*◌, ◌^◌, ◌≤◌, ◌<◌}
use mathlib.Core.Path.{◌≡◌, refl, sym, ◌∙◌}
use mathlib.Core.Bool.{Bool, true, false, ◌&&◌}
use mathlib.Core.List.{List}
use native.Mathlib.Omega.{arith}
use native.Mathlib.Nat.{mul-le-mul_left}
use native.Mathlib.Numerals.{add-one}
use lib.Dec.{leb, ltb}
use lib.ListN.{length, drop, get_or, drop_of_length-le}
use lib.Seq.{drop-cons}
use borrow.Author.Tests.{eq-eqb, ne_eqb, le-leb, lt-leb, lt-ltb, le-ltb}
use Rattle.sketch.specs.declared.MicroCm.{MicroCm}
use Rattle.sketch.specs.Refusals.{bits_up_to, grid_fits, all_below, key_fits}

-- LOG2 of cols: none of the first k powers of two is cols
abbrev pub Missed : ℕ → ℕ → Type 0
Missed zero cols = Unit
Missed (suc k) cols = Missed k cols × (cols ≡ 2 ^ suc k → ⊥)

pub missed_bits : (k cols : ℕ) → Missed k cols → 0 ≡ bits_up_to k cols
unfolding bits_up_to
missed_bits zero cols m = refl
missed_bits (suc k) cols m = simp (ne_eqb _ _ m.1) (missed_bits k cols m.0)

-- THE GRID'S SHAPE
module _ (rows cols bits : ℕ) (is : bits ≡ bits_up_to 16 cols) where
  pub no_rows : rows < 1 → false ≡ grid_fits rows cols
  unfolding grid_fits
  no_rows h = simp (lt-leb _ _ h)

  pub no_bits : 1 ≤ rows → bits < 1 → false ≡ grid_fits rows cols
  unfolding grid_fits
  no_bits h l = simp (le-leb _ _ h, lt-leb _ _ (rw is at l))

  pub many_rows : 1 ≤ rows → 1 ≤ bits → 128 < rows → false ≡ grid_fits rows cols
  unfolding grid_fits
  many_rows h l m =
      let l' : 1 ≤ bits_up_to 16 cols = rw is at l in
      let over : 128 < rows * bits_up_to 16 cols = omega (arith, mul-le-mul_left rows l') in
      simp (le-leb _ _ h, le-leb _ _ l', lt-leb _ _ over)

  pub bits_decide : 1 ≤ rows → 1 ≤ bits → leb (rows * bits) 128 ≡ grid_fits rows cols
  unfolding grid_fits
  bits_decide h l = rw is (simp (le-leb _ _ h, le-leb _ _ (rw is at l)))

-- THE KEY: the columns before a row are below cols
pub record Rows (cols : ℕ) (key : List ℕ) (row : ℕ) : Type 0 where
  pub same : all_below cols key ≡ all_below cols (drop row key)

pub rows_begin : (cols : ℕ) (key : List ℕ) → Rows cols key 0
rows_begin cols key = record { same = refl }

module _ (cols row : ℕ) (key : List ℕ) (w : Rows cols key row) where
  below_cons : row < length key → all_below cols (drop row key) ≡ ltb (get_or key row 0) cols && all_below cols (drop (suc row) key)
  unfolding all_below
  below_cons h = rw (drop-cons key row 0 h) refl

  pub rows_found : row < length key → cols ≤ get_or key row 0 → false ≡ all_below cols key
  rows_found h l = sym (w.same ∙ below_cons h ∙ simp (le-ltb _ _ l))

  pub rows_on : row < length key → get_or key row 0 < cols → Rows cols key (row + 1)
  rows_on h l = record { same = w.same ∙ below_cons h ∙ rw add-one (simp (lt-ltb _ _ l)) }

  pub rows_end : length key ≤ row → true ≡ all_below cols key
  unfolding all_below
  rows_end h = sym (w.same ∙ rw (drop_of_length-le key h) refl)

module _ (k : MicroCm) (key : List ℕ) where
  pub key_length : (b : Bool) → length key ≡ k.rows → b ≡ all_below k.cols key → b ≡ key_fits k key
  unfolding key_fits
  key_length b e q = q ∙ simp (eq-eqb _ _ e)

  pub key_other : (length key ≡ k.rows → ⊥) → false ≡ key_fits k key
  unfolding key_fits
  key_other n = simp (ne_eqb _ _ n)

pub few_products : (rows bits : ℕ) → rows ≤ 128 → bits ≤ 16 → rows * bits < 2 ^ 64
few_products rows bits h l = omega (arith, mul-le-mul_left rows l)
