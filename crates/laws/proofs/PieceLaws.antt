-- What each piece becomes in a pass, where a step is known for the pieces that are there and not for every list.
use Prim.Native.Nat.{ℕ, zero, suc, ◌+◌, ◌*◌, ◌≤◌, ◌<◌}
use mathlib.Core.Path.{◌≡◌, refl, sym, ap, ◌∙◌}
use mathlib.Core.List.{List, ◌++◌}
use lib.ListN.{length, take, drop, length-drop}
use lib.Seq.{drop-drop, take_at, drop_at}
use native.Mathlib.Omega.{arith}
use native.Mathlib.Nat.{add-zero, add-suc, suc-add, zero-mul}
use Rattle.laws.specs.Steps.{Step}
use Rattle.laws.specs.Parts.{part}
use Rattle.laws.specs.Passes.{each_of}
use Rattle.laws.specs.Sums.{total}
use Rattle.laws.proofs.PartLaws.{further}
use Rattle.laws.proofs.SumLaws.{total_same, total_first}

module _ (f : ℕ → List ℕ → ℕ → Step) (size : ℕ) where
  -- the pieces behind the first, numbered from the next on
  behind : (i j : ℕ) (l : List ℕ) (τ : ℕ) → f (j + suc i) (part (suc i * size) size l) τ ≡ f (suc j + i) (part (i * size) size (drop size l)) τ
  behind i j l τ = rw (further size i, ← drop-drop (i * size) size l, add-suc, suc-add)

  first_piece : (a b : List ℕ) → length a ≡ size → part (0 * size) size (a ++ b) ≡ a
  first_piece a b e = rw zero-mul (take_at a b size e)

  next_piece : (i : ℕ) (a b : List ℕ) → length a ≡ size → part (suc i * size) size (a ++ b) ≡ part (i * size) size b
  next_piece i a b e = rw (further size i, ← drop-drop (i * size) size (a ++ b), drop_at a b size e)

  pub each_made : (P : List ℕ → Type 0) (k j : ℕ) (l : List ℕ) (σ : ℕ) → k * size ≤ length l
      → ((i τ : ℕ) → i < k → (length (f (j + i) (part (i * size) size l) τ).bytes ≡ size) × P (f (j + i) (part (i * size) size l) τ).bytes)
      → (i : ℕ) → i < k → P (part (i * size) size (each_of f size j k l σ).bytes)
  unfolding each_of
  each_made P zero j l σ room made i h = absurd (omega arith)
  each_made P (suc k) j l σ room made zero h =
      let here = rw (zero-mul, add-zero) at (made 0 σ (omega arith)) in
      rw (first_piece (f j (take size l) σ).bytes _ here.0) here.1
  each_made P (suc k) j l σ room made (suc i) h =
      let here = rw (zero-mul, add-zero) at (made 0 σ (omega arith)) in
      let less : k * size ≤ length (drop size l) = rw (length-drop size l) (omega (arith, further size k)) in
      rw (next_piece i (f j (take size l) σ).bytes _ here.0)
      (each_made P k (suc j) (drop size l) (f j (take size l) σ).state less
      (λ i' τ h'. rw (behind i' j l τ) at (made (suc i') τ (omega arith))) i (omega arith))

  -- each piece is what its step makes of it, from the state that the pieces before it left
  pub each_at : (k j : ℕ) (l : List ℕ) (σ : ℕ) → k * size ≤ length l
      → ((i τ : ℕ) → i < k → length (f (j + i) (part (i * size) size l) τ).bytes ≡ size)
      → (i : ℕ) → i < k
      → part (i * size) size (each_of f size j k l σ).bytes ≡ (f (j + i) (part (i * size) size l) (each_of f size j i l σ).state).bytes
  unfolding each_of
  each_at zero j l σ room long i h = absurd (omega arith)
  each_at (suc k) j l σ room long zero h =
      let here = rw (zero-mul, add-zero) at (long 0 σ (omega arith)) in
      first_piece (f j (take size l) σ).bytes _ here ∙ rw (zero-mul, add-zero) refl
  each_at (suc k) j l σ room long (suc i) h =
      let s = f j (take size l) σ in
      let here = rw (zero-mul, add-zero) at (long 0 σ (omega arith)) in
      let less : k * size ≤ length (drop size l) = rw (length-drop size l) (omega (arith, further size k)) in
      next_piece i s.bytes _ here
      ∙ each_at k (suc j) (drop size l) s.state less (λ i' τ h'. rw (behind i' j l τ) at (long (suc i') τ (omega arith))) i (omega arith)
      ∙ ap (λ (r : Step). r.bytes) (sym (behind i j l _))

  -- what a pass loses is what its steps lose, added up
  pub each_lost : (k j : ℕ) (l : List ℕ) (σ : ℕ)
      → (each_of f size j (suc k) l σ).lost ≡ total k (λ i. (f (j + i) (part (i * size) size l) (each_of f size j i l σ).state).lost)
  unfolding each_of total
  each_lost zero j l σ = simp (zero-mul, add-zero)
  each_lost (suc k) j l σ =
      let s = f j (take size l) σ in
      let here : (f (j + 0) (part (0 * size) size l) σ).lost ≡ s.lost = rw (zero-mul, add-zero) refl in
      ap (λ (n : ℕ). s.lost + n) (each_lost k (suc j) (drop size l) s.state
      ∙ total_same k _ _ (λ i h. ap (λ (r : Step). r.lost) (sym (behind i j l _))))
      ∙ sym (total_first k (λ i. (f (j + i) (part (i * size) size l) (each_of f size j i l σ).state).lost) ∙ rw here refl)

  -- what is known of the state and the draws of each step is known of the whole, if it adds up
  module _ (after : ℕ → ℕ → ℕ) (none : (σ : ℕ) → σ ≡ after 0 σ) (adds : (m n σ : ℕ) → after (m + n) σ ≡ after n (after m σ)) where
    pub each_drawn : (k j : ℕ) (l : List ℕ) (σ : ℕ)
        → ((i τ : ℕ) → i < k → (f (j + i) (part (i * size) size l) τ).state ≡ after (f (j + i) (part (i * size) size l) τ).draws τ)
        → (each_of f size j k l σ).state ≡ after (each_of f size j k l σ).draws σ
    unfolding each_of
    each_drawn zero j l σ drawn = none σ
    each_drawn (suc k) j l σ drawn =
        let s = f j (take size l) σ in
        let here : s.state ≡ after s.draws σ = rw (zero-mul, add-zero) at (drawn 0 σ (omega arith)) in
        each_drawn k (suc j) (drop size l) s.state (λ i τ h. rw (behind i j l τ) at (drawn (suc i) τ (omega arith)))
        ∙ ap (after (each_of f size (suc j) k (drop size l) s.state).draws) here
        ∙ sym (adds s.draws (each_of f size (suc j) k (drop size l) s.state).draws σ)
