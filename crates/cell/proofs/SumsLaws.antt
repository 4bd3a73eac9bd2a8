-- The sums of a merge before they are made to fit, of the definitions alone: each bound is that of one division, carried along the levels and the
-- pixels. Assumes nothing.
use Prim.Native.Nat.{ℕ, zero, suc, ◌+◌, ◌*◌, ◌≤◌}
use mathlib.Core.Path.{◌≡◌, refl, ap, ◌∙◌}
use mathlib.Core.Bool.{true}
use mathlib.Core.List.{List, [], ◌∷◌, ◌++◌}
use lib.ListN.{length, get_or, set}
use native.Mathlib.Omega.{arith}
use native.Mathlib.Nat.{suc-mul, mul-le-mul, le_trans}
use borrow.Author.Tests.{le-leb}
use Rattle.rounding.specs.declared.Divided.{Divided}
use Rattle.rounding.specs.Draws.{state_after, rounded_div}
use Rattle.rounding.proofs.DivisionLaws.{draws_le, state_is}
use Rattle.rounding.proofs.StateLaws.{after_add}
use Rattle.cell.specs.Cell.{sum_of}
use Rattle.cell.specs.Crossing.{all_at_most}
use Rattle.cell.specs.Merge.{scale_down, add_pair, add_each}
use Rattle.cell.proofs.DivideLaws.{quotient_small}
use Rattle.cell.proofs.AtMostLaws.{most_cons}

-- draws one after another
pub after_then : (a b σ τ : ℕ) → τ ≡ state_after a σ → state_after b τ ≡ state_after (a + b) σ
after_then a b σ τ e = rw (after_add a b σ, e) refl

-- SCALE DOWN
module _ (c : ℕ) where
  pub scale_draws : (levels v σ : ℕ) → (scale_down c levels v σ).draws ≤ levels
  unfolding scale_down
  scale_draws zero v σ = omega arith
  scale_draws (suc levels) v σ = omega (arith, draws_le v c σ, scale_draws levels (rounded_div v c σ).value (rounded_div v c σ).state)

  scale_state : (levels v σ : ℕ) → (scale_down c levels v σ).state ≡ state_after (scale_down c levels v σ).draws σ
  unfolding scale_down state_after
  scale_state zero v σ = refl
  scale_state (suc levels) v σ =
      let d : Divided = rounded_div v c σ in
      scale_state levels d.value d.state ∙ after_then d.draws _ σ d.state (state_is v c σ)

  pub scale_value : (levels v σ : ℕ) → 2 ≤ c → v ≤ 255 → (scale_down c levels v σ).value ≤ 255
  unfolding scale_down
  scale_value zero v σ base h = h
  scale_value (suc levels) v σ base h =
      scale_value levels (rounded_div v c σ).value (rounded_div v c σ).state base (omega (arith, quotient_small v c σ (omega arith) base))

-- ADD
module _ (c down down' : ℕ) where
  pair_draws : (x y σ : ℕ) → (add_pair c down down' x y σ).draws ≤ down + down'
  unfolding add_pair
  pair_draws x y σ = omega (arith, scale_draws c down x σ, scale_draws c down' y (scale_down c down x σ).state)

  pair_state : (x y σ : ℕ) → (add_pair c down down' x y σ).state ≡ state_after (add_pair c down down' x y σ).draws σ
  unfolding add_pair
  pair_state x y σ = scale_state c down' y (scale_down c down x σ).state ∙ after_then (scale_down c down x σ).draws _ σ _ (scale_state c down x σ)

  pair_value : (x y σ : ℕ) → 2 ≤ c → x ≤ 255 → y ≤ 255 → (add_pair c down down' x y σ).value ≤ 510
  unfolding add_pair
  pair_value x y σ base hx hy = omega (arith, scale_value c down x σ base hx, scale_value c down' y (scale_down c down x σ).state base hy)

  pub add_draws : (xs ys : List ℕ) (σ : ℕ) → (add_each c down down' xs ys σ).draws ≤ length xs * (down + down')
  unfolding add_each
  add_draws [] ys σ = omega arith
  add_draws (x ∷ xs) [] σ = omega arith
  add_draws (x ∷ xs) (y ∷ ys) σ =
      rw (suc-mul (length xs) (down + down')) (omega (arith, pair_draws x y σ, add_draws xs ys (add_pair c down down' x y σ).state))

  -- as few as a counter of four bytes holds
  pub add_few : (xs ys : List ℕ) (σ : ℕ) → down ≤ 255 → down' ≤ 255 → length xs ≤ 4098 → (add_each c down down' xs ys σ).draws ≤ 4098 * 510
  add_few xs ys σ h h' few =
      let q : down + down' ≤ 510 = omega arith in
      le_trans (add_draws xs ys σ) (mul-le-mul few q)

  pub add_state : (xs ys : List ℕ) (σ : ℕ) → (add_each c down down' xs ys σ).state ≡ state_after (add_each c down down' xs ys σ).draws σ
  unfolding add_each state_after
  add_state [] ys σ = refl
  add_state (x ∷ xs) [] σ = refl
  add_state (x ∷ xs) (y ∷ ys) σ =
      let d : Divided = add_pair c down down' x y σ in
      add_state xs ys d.state ∙ after_then d.draws _ σ d.state (pair_state x y σ)

  pub add_length : (xs ys : List ℕ) (σ : ℕ) → length ys ≡ length xs → length (add_each c down down' xs ys σ).bytes ≡ length xs
  unfolding add_each
  add_length [] ys σ e = refl
  add_length (x ∷ xs) [] σ e = absurd (omega arith)
  add_length (x ∷ xs) (y ∷ ys) σ e = ap suc (add_length xs ys _ (omega arith))

  pub add_sums : (xs ys : List ℕ) (σ : ℕ) → 2 ≤ c → ((i : ℕ) → get_or xs i 0 ≤ 255) → ((i : ℕ) → get_or ys i 0 ≤ 255)
      → (i : ℕ) → get_or (add_each c down down' xs ys σ).bytes i 0 ≤ 510
  unfolding add_each
  add_sums [] ys σ base hx hy i = omega arith
  add_sums (x ∷ xs) [] σ base hx hy i = omega arith
  add_sums (x ∷ xs) (y ∷ ys) σ base hx hy zero = pair_value x y σ base (hx 0) (hy 0)
  add_sums (x ∷ xs) (y ∷ ys) σ base hx hy (suc i) = add_sums xs ys _ base (λ j. hx (suc j)) (λ j. hy (suc j)) i

-- with no level to come down nothing is rounded
pub flat_sum : (c : ℕ) (xs ys : List ℕ) (σ : ℕ) → length ys ≡ length xs → sum_of (add_each c 0 0 xs ys σ).bytes ≡ sum_of xs + sum_of ys
unfolding add_each add_pair scale_down sum_of
flat_sum c [] [] σ e = refl
flat_sum c [] (y ∷ ys) σ e = absurd (omega arith)
flat_sum c (x ∷ xs) [] σ e = absurd (omega arith)
flat_sum c (x ∷ xs) (y ∷ ys) σ e = omega (arith, flat_sum c xs ys σ (omega arith))

-- ALL AT MOST m, number by number
module _ (m : ℕ) where
  pub most_at : (l : List ℕ) (i : ℕ) → all_at_most m l ≡ true → get_or l i 0 ≤ m
  most_at [] i e = omega arith
  most_at (x ∷ xs) zero e = (most_cons m x xs e).0
  most_at (x ∷ xs) (suc i) e = most_at xs i (most_cons m x xs e).1

  pub most_one_more : (l : List ℕ) (x : ℕ) → all_at_most m l ≡ true → x ≤ m → all_at_most m (l ++ (x ∷ [])) ≡ true
  unfolding all_at_most
  most_one_more [] x e h = simp (le-leb _ _ h)
  most_one_more (y ∷ l) x e h =
      let q = most_cons m y l e in
      simp (le-leb _ _ q.0) (most_one_more l x q.1 h)

  pub most_set : (l : List ℕ) (i x : ℕ) → all_at_most m l ≡ true → x ≤ m → all_at_most m (set l i x) ≡ true
  unfolding all_at_most
  most_set [] i x e h = refl
  most_set (y ∷ l) zero x e h = simp (le-leb _ _ h) (most_cons m y l e).1
  most_set (y ∷ l) (suc i) x e h =
      let q = most_cons m y l e in
      simp (le-leb _ _ q.0) (most_set l i x q.1 h)

pub most_up : (m m' : ℕ) (l : List ℕ) → m ≤ m' → all_at_most m l ≡ true → all_at_most m' l ≡ true
unfolding all_at_most
most_up m m' [] h e = refl
most_up m m' (x ∷ xs) h e =
    let q = most_cons m x xs e in
    let l : x ≤ m' = omega (arith, q.0) in
    simp (le-leb _ _ l) (most_up m m' xs h q.1)
