-- What stands in two lists side by side stands in one of them: so a list is gone through from its first on. Assumes nothing.
use Prim.Native.Nat.{ℕ, ◌<◌}
use mathlib.Core.Path.{◌≡◌, refl, sym, ◌∙◌}
use mathlib.Core.Bool.{Bool, true, false, ◌||◌, true≢false}
use mathlib.Core.List.{List, [], ◌∷◌, ◌++◌}
use lib.Dec.{eqb}
use borrow.Author.Tests.{eqb-true, eq-eqb}
use Rattle.sketch.specs.Refusals.{all_below}
use Rattle.sketch.proofs.GridLaws.{below_first, below_rest}
use Rattle.codes.specs.Codes.{is_in}

-- one of two
pub or_where : (a b : Bool) → a || b ≡ true → (P : Type 0) → (a ≡ true → P) → (b ≡ true → P) → P
or_where true b e P here there = here refl
or_where false b e P here there = there e

pub or_true : (a : Bool) → a || true ≡ true
or_true true = refl
or_true false = refl

-- THE FIRST, or the rest
module _ (x y : ℕ) (ys : List ℕ) where
  in_cons : is_in x (y ∷ ys) ≡ (eqb y x || is_in x ys)
  unfolding is_in
  in_cons = refl

  pub in_where : is_in x (y ∷ ys) ≡ true → (P : Type 0) → (y ≡ x → P) → (is_in x ys ≡ true → P) → P
  in_where e P here later = or_where (eqb y x) (is_in x ys) (sym in_cons ∙ e) P (λ q. here (eqb-true y x q)) later

  pub in_first : y ≡ x → is_in x (y ∷ ys) ≡ true
  in_first e = in_cons ∙ rw (eq-eqb y x e) refl

  pub in_later : is_in x ys ≡ true → is_in x (y ∷ ys) ≡ true
  in_later e = in_cons ∙ rw e (or_true (eqb y x))

pub not_in_none : (x : ℕ) → is_in x [] ≡ false
unfolding is_in
not_in_none x = refl

-- SIDE BY SIDE
pub in_append : (x : ℕ) (xs ys : List ℕ) → is_in x (xs ++ ys) ≡ (is_in x xs || is_in x ys)
unfolding is_in
in_append x [] ys = refl
in_append x (y ∷ xs) ys = by (eqb y x) (in_append x xs ys)
  where
    by : (a : Bool) → is_in x (xs ++ ys) ≡ (is_in x xs || is_in x ys) → (a || is_in x (xs ++ ys)) ≡ ((a || is_in x xs) || is_in x ys)
    by true e = refl
    by false e = e

-- of numbers below m each is
pub in_below : (m x : ℕ) (xs : List ℕ) → all_below m xs ≡ true → is_in x xs ≡ true → x < m
in_below m x [] low e = absurd (true≢false (sym e ∙ not_in_none x))
in_below m x (y ∷ ys) low e = in_where x y ys e (x < m) (λ same. rw (← same) (below_first m y ys low)) (in_below m x ys (below_rest m y ys low))
