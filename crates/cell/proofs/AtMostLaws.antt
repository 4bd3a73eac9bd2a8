-- Numbers that are all at most m, walked from the first to the last; and what the ceiling of a zoom-in is for.
-- Assumes nothing.
use Prim.Native.Nat.{ℕ, suc, ◌+◌, ◌*◌, ◌≤◌, ◌<◌}
use mathlib.Core.Path.{◌≡◌, refl, sym, ◌∙◌}
use mathlib.Core.Bool.{Bool, true, false, not, ◌&&◌, and-eq-true_iff}
use mathlib.Core.List.{List, ◌∷◌}
use lib.Dec.{leb}
use lib.ListN.{length, drop, get_or, drop_of_length-le}
use lib.Seq.{drop-cons}
use native.Mathlib.Nat.{div-mul-le_self, mul-le-mul_right}
use native.Mathlib.Numerals.{add-one}
use native.Mathlib.Omega.{arith}
use borrow.Author.Tests.{le-leb, lt-leb, leb-true, not-false}
use Rattle.cell.specs.Crossing.{ceiling_of, all_at_most}

pub most_cons : (m x : ℕ) (xs : List ℕ) → all_at_most m (x ∷ xs) ≡ true → (x ≤ m) × (all_at_most m xs ≡ true)
unfolding all_at_most
most_cons m x xs e =
    let q = (and-eq-true_iff (leb x m) (all_at_most m xs)).0 e in
    (leb-true x m q.0, q.1)

-- up to here they are
module _ (m i x : ℕ) (l : List ℕ) (h : i < length l) (e : x ≡ get_or l i 0) (inv : all_at_most m l ≡ all_at_most m (drop i l)) where
  most_here : all_at_most m l ≡ (leb x m && all_at_most m (drop (suc i) l))
  unfolding all_at_most
  most_here = inv ∙ rw (drop-cons l i 0 h, e) refl

  pub most_on : x ≤ m → all_at_most m l ≡ all_at_most m (drop (i + 1) l)
  most_on s = most_here ∙ simp (le-leb _ _ s, add-one)

  pub most_stop : m < x → false ≡ all_at_most m l
  most_stop s = sym (most_here ∙ simp (lt-leb _ _ s))

pub most_end : (m i : ℕ) (l : List ℕ) → length l ≤ i → all_at_most m l ≡ all_at_most m (drop i l) → true ≡ all_at_most m l
unfolding all_at_most
most_end m i l h inv = sym (inv ∙ rw (drop_of_length-le l h) refl)

pub room_known : (m : ℕ) (l : List ℕ) (room : Bool) → room ≡ all_at_most m l → not room ≡ false → all_at_most m l ≡ true
room_known m l room e g = sym e ∙ not-false room g

-- no pixel up to the ceiling outgrows its byte
pub ceiling_fits : (c x : ℕ) → x ≤ ceiling_of c → x * c ≤ 255
unfolding ceiling_of
ceiling_fits c x h = omega (arith, mul-le-mul_right c h, div-mul-le_self 255 c)
