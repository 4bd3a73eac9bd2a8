-- The tally counts one more where the key has the column, and is left as it was where not.
use Prim.Native.Nat.{ℕ, zero, suc, ◌<◌}
use mathlib.Core.Path.{◌≡◌, refl, ◌∙◌, fun_ext}
use mathlib.Core.Bool.{true}
use mathlib.Core.List.{List, [], ◌∷◌}
use lib.Dec.{eqb}
use lib.ListN.{length, get_or}
use native.Mathlib.Omega.{arith}
use borrow.Author.Tests.{eq-eqb, ne_eqb}
use Rattle.band.specs.Tally.{hits, counted}
use Rattle.band.proofs.History.{OneMore}

pub hits_is : (key : List ℕ) (row col : ℕ) → row < length key → hits key row col ≡ eqb (get_or key row 0) col
unfolding hits
hits_is [] row col h = absurd (omega arith)
hits_is (x ∷ key) zero col h = refl
hits_is (x ∷ key) (suc row) col h = hits_is key row col (omega arith)

module _ (n : ℕ) (key : List ℕ) (items : ℕ → ℕ → ℕ → ℕ) (row col : ℕ) (inside : row < length key) where
  pub counted_hit : get_or key row 0 ≡ col → OneMore n (items row col) (counted n key items row col)
  unfolding counted
  counted_hit is =
      let e : hits key row col ≡ true = hits_is key row col inside ∙ eq-eqb (get_or key row 0) col is in
      record { here = rw (e, eq-eqb n n refl) refl; elsewhere = λ j ne. rw (e, ne_eqb j n ne) refl }

  pub counted_miss : (get_or key row 0 ≡ col → ⊥) → counted n key items row col ≡ items row col
  unfolding counted
  counted_miss ne = fun_ext (λ j. rw (hits_is key row col inside, ne_eqb (get_or key row 0) col ne) refl)
