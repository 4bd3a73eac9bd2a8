-- Sums are made to fit a byte, of the definitions alone: raised while one does not, and cut at max_zoom. What is cut off is what was above 255.
-- Assumes nothing.
use Prim.Native.Nat.{ℕ, zero, suc, ◌+◌, ◌*◌, ◌/◌, ◌<◌, ◌≤◌, min}
use mathlib.Core.Path.{◌≡◌, refl, sym, ap, ◌∙◌}
use mathlib.Core.Bool.{true, false}
use mathlib.Core.List.{List, [], ◌∷◌}
use lib.ListN.{length}
use native.Mathlib.Omega.{arith}
use native.Mathlib.Nat.{suc-mul, mul-le-mul, le_trans, div-le_of_le-mul}
use borrow.Author.Tests.{le-leb}
use Rattle.laws.specs.Steps.{Step, still}
use Rattle.laws.proofs.ChoiceLaws.{either, both_by}
use Rattle.rounding.specs.Draws.{state_after, rounded_div}
use Rattle.rounding.proofs.DivisionLaws.{value_le}
use Rattle.cell.specs.Cell.{sum_of}
use Rattle.cell.specs.Insertion.{divide_each}
use Rattle.cell.specs.Crossing.{all_at_most}
use Rattle.cell.specs.Merge.{cut_each, cut_off, Settled, settled_later, settle_from}
use Rattle.cell.specs.Lost.{raised_from}
use Rattle.cell.proofs.DivideLaws.{divide_length, divide_draws, divide_state}
use Rattle.cell.proofs.AtMostLaws.{most_cons}
use Rattle.cell.proofs.SumsLaws.{after_then}

-- CUT
pub cut_low : (l : List ℕ) → all_at_most 255 (cut_each l) ≡ true
unfolding all_at_most cut_each
cut_low [] = refl
cut_low (x ∷ xs) =
    let h : min x 255 ≤ 255 = omega arith in
    simp (le-leb _ _ h) (cut_low xs)

cut_length : (l : List ℕ) → length (cut_each l) ≡ length l
unfolding cut_each
cut_length [] = refl
cut_length (x ∷ xs) = ap suc (cut_length xs)

-- what fits is not changed by it
cut_fits : (l : List ℕ) → all_at_most 255 l ≡ true → cut_each l ≡ l
unfolding cut_each
cut_fits [] e = refl
cut_fits (x ∷ xs) e =
    let q = most_cons 255 x xs e in
    let same : min x 255 ≡ x = omega (arith, q.0) in
    rw (same, cut_fits xs q.1) refl

-- a sum is what it is cut to and what is cut off; where all fit nothing is
pub cut_lost : (l : List ℕ) → sum_of (cut_each l) + cut_off l ≡ sum_of l
unfolding cut_each cut_off sum_of
cut_lost [] = refl
cut_lost (x ∷ xs) = omega (arith, cut_lost xs)

pub cut_none : (l : List ℕ) → all_at_most 255 l ≡ true → cut_off l ≡ 0
unfolding cut_off
cut_none [] e = refl
cut_none (x ∷ xs) e =
    let q = most_cons 255 x xs e in
    omega (arith, q.0, cut_none xs q.1)

-- a sum goes up to 511
pub cut_few : (l : List ℕ) → all_at_most 511 l ≡ true → cut_off l ≤ 256 * length l
unfolding cut_off
cut_few [] e = omega arith
cut_few (x ∷ xs) e =
    let q = most_cons 511 x xs e in
    omega (arith, q.0, cut_few xs q.1)

-- and dividing leaves it so
pub divide_most : (c : ℕ) → 2 ≤ c → (l : List ℕ) (σ : ℕ) → all_at_most 511 l ≡ true → all_at_most 511 (divide_each c l σ).bytes ≡ true
unfolding divide_each all_at_most
divide_most c base [] σ e = refl
divide_most c base (v ∷ vs) σ e =
    let q = most_cons 511 v vs e in
    let half : v / c ≤ 256 = div-le_of_le-mul c (omega (arith, q.0)) in
    let h : (rounded_div v c σ).value ≤ 511 = omega (arith, value_le v c σ) in
    simp (le-leb _ _ h) (divide_most c base vs (rounded_div v c σ).state q.1)

-- SETTLE
-- what settling leaves, so many levels below max_zoom
pub record Settles (left z : ℕ) (l : List ℕ) (σ : ℕ) (r : Settled) : Type 0 where
  pub low : all_at_most 255 r.sums.bytes ≡ true
  pub long : length r.sums.bytes ≡ length l
  pub zoom_ge : z ≤ r.zoom
  pub zoom_le : r.zoom ≤ z + left
  pub state : r.sums.state ≡ state_after r.sums.draws σ
  pub draws : r.sums.draws ≤ left * length l
  pub lost_below : r.zoom < z + left → r.sums.lost ≡ 0

-- sums that are these, each cut to 255
pub record CutFrom (sums : List ℕ) (r : Settled) : Type 0 where
  pub bytes : r.sums.bytes ≡ cut_each sums
  pub lost : r.sums.lost ≡ cut_off sums

module _ (c : ℕ) where
  -- sums that fit are settled, at max_zoom too
  pub settle_fit : (left z : ℕ) (l : List ℕ) (σ : ℕ) → all_at_most 255 l ≡ true → settle_from c left z l σ ≡ record { zoom = z; sums = still l σ }
  unfolding settle_from
  settle_fit zero z l σ e = rw (cut_fits l e, cut_none l e) refl
  settle_fit (suc left) z l σ e = rw e refl

  -- below max_zoom a sum that does not fit is divided with all others, and nothing is cut
  pub settle_raise : (left z : ℕ) (l : List ℕ) (σ : ℕ) → all_at_most 255 l ≡ false
      → settle_from c (suc left) z l σ ≡ settled_later (divide_each c l σ).draws (settle_from c left (z + 1) (divide_each c l σ).bytes (divide_each c l σ).state)
  unfolding settle_from
  settle_raise left z l σ e = rw e refl

  pub settles : (left z : ℕ) (l : List ℕ) (σ : ℕ) → Settles left z l σ (settle_from c left z l σ)
  unfolding settle_from state_after
  settles zero z l σ = record {
    low = cut_low l;
    long = cut_length l;
    zoom_ge = omega arith;
    zoom_le = omega arith;
    state = refl;
    draws = omega arith;
    lost_below = λ h. absurd (omega arith);
  }
  settles (suc left) z l σ =
      let s : Step = divide_each c l σ in
      let w : Settles left (z + 1) s.bytes s.state (settle_from c left (z + 1) s.bytes s.state) = settles left (z + 1) s.bytes s.state in
      either (Settles (suc left) z l σ) (all_at_most 255 l) _ _
      (λ e. record {
        low = e;
        long = refl;
        zoom_ge = omega arith;
        zoom_le = omega arith;
        state = refl;
        draws = omega arith;
        lost_below = λ h. refl;
      })
      (λ e. record {
        low = w.low;
        long = w.long ∙ divide_length c l σ;
        zoom_ge = omega (arith, w.zoom_ge);
        zoom_le = omega (arith, w.zoom_le);
        state = w.state ∙ after_then s.draws _ σ s.state (divide_state c l σ);
        draws = rw (suc-mul left (length l)) (omega (arith, divide_draws c l σ, rw (divide_length c l σ) at w.draws));
        lost_below = λ h. w.lost_below (omega arith);
      })

  pub settle_few : (left z : ℕ) (l : List ℕ) (σ : ℕ) → left ≤ 31 → length l ≤ 4098 → (settle_from c left z l σ).sums.draws ≤ 31 * 4098
  settle_few left z l σ h few = le_trans (settles left z l σ).draws (mul-le-mul h few)

  -- what it leaves are the sums as they are before any is cut, and then cut
  pub settle_cut : (left z : ℕ) (l : List ℕ) (σ : ℕ) → CutFrom (raised_from c left l σ) (settle_from c left z l σ)
  unfolding settle_from raised_from
  settle_cut zero z l σ = record { bytes = refl; lost = refl }
  settle_cut (suc left) z l σ =
      let s : Step = divide_each c l σ in
      let w = settle_cut left (z + 1) s.bytes s.state in
      both_by CutFrom (all_at_most 255 l) l (raised_from c left s.bytes s.state) _ _
      (λ e. record { bytes = sym (cut_fits l e); lost = sym (cut_none l e) }) (λ e. record { bytes = w.bytes; lost = w.lost })

  -- where the zoom stays as it was no sum was divided
  pub settle_flat : (left z : ℕ) (l : List ℕ) (σ : ℕ) → (settle_from c left z l σ).zoom ≡ z → raised_from c left l σ ≡ l
  unfolding settle_from raised_from
  settle_flat zero z l σ = λ q. refl
  settle_flat (suc left) z l σ =
      let s : Step = divide_each c l σ in
      let up = (settles left (z + 1) s.bytes s.state).zoom_ge in
      both_by (λ (sums : List ℕ) (r : Settled). r.zoom ≡ z → sums ≡ l) (all_at_most 255 l) l (raised_from c left s.bytes s.state) _ _
      (λ e q. refl) (λ e q. absurd (omega (arith, up)))
