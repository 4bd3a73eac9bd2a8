-- Level by level: what has grown still fits a byte, and where the next level would not, no deeper one does. Assumes nothing.
use Prim.Native.Nat.{ℕ, zero, suc, ◌+◌, ◌-◌, ◌*◌, ◌^◌, ◌≤◌, ◌<◌, max}
use mathlib.Core.Path.{◌≡◌, refl, sym, ◌∙◌}
use mathlib.Core.List.{List, [], ◌∷◌}
use lib.ListN.{length, get_or}
use lib.Seq.{get_or-set_same, get_or-set_other}
use native.Mathlib.Omega.{arith}
use native.Mathlib.Decide.{dec_le}
use native.Mathlib.Nat.{pow-zero, pow-suc, pow-le-pow_right, one-mul, mul_assoc, mul_comm, mul-le-mul_right, le_trans, lt_of_not-le, not-le_of_lt, mul-zero}
use native.Mathlib.Numerals.{add-one}
use Rattle.laws.specs.Sums.{largest}
use Rattle.cell.specs.Cell.{pixel_of, with_pixel}
use Rattle.cell.specs.ZoomIn.{levels_up_to}
use Rattle.cell.proofs.LargestLaws.{only}

-- THE LEVELS: k of them were found to fit
pub record Growing (c m z grown k : ℕ) : Type 0 where
  pub found : grown ≡ c ^ k * m
  pub fits : grown ≤ 255
  pub low : k ≤ z

pub growing_begin : (c m z : ℕ) → m < 2 ^ 8 → Growing c m z m 0
growing_begin c m z h = record { found = sym (rw (pow-zero c) (one-mul m)); fits = omega arith; low = omega arith }

module _ (c m z grown k : ℕ) (w : Growing c m z grown k) where
  pub growing_short : c < 2 ^ 32 → grown * c < 2 ^ 64
  growing_short h =
      let a : grown * c ≤ 255 * c = mul-le-mul_right c w.fits in
      omega arith

  next_is : grown * c ≡ c ^ suc k * m
  next_is = rw (w.found, pow-suc c k) (mul_assoc (c ^ k) m c ∙ rw (mul_comm m c) (sym (mul_assoc (c ^ k) c m)))

  pub growing_on : k < z → grown * c ≤ 255 → Growing c m z (grown * c) (k + 1)
  growing_on l h = record { found = rw (add-one k) next_is; fits = h; low = omega arith }

  pub growing_by : (b : ℕ) → b ≡ c → k < z → grown * b ≤ 255 → Growing c m z (grown * b) (k + 1)
  growing_by b e l h = rw e (growing_on l (rw e at h))

  -- a base of 0 would have grown nothing
  some : 255 < grown * c → 0 < c
  some h = lt_of_not-le (λ l.
      let none : c ≡ 0 = omega arith in
      omega (arith, rw (none, mul-zero grown) at h))

  pub growing_stops : k < z → 255 < grown * c → k ≡ levels_up_to c m z
  growing_stops l h =
      only c m z k
      (record { at_most = w.low; fits = rw w.found at w.fits; no_more = λ other lo e. no_deeper other e (dec_le other k) })
    where
      deeper : (other : ℕ) → k < other → 255 < c ^ other * m
      deeper other past =
          let p : 0 < c = some h in
          let more : c ^ suc k * m ≤ c ^ other * m = mul-le-mul_right m (pow-le-pow_right p past) in
          le_trans (rw next_is at h) more

      no_deeper : (other : ℕ) → c ^ other * m ≤ 255 → Dec (other ≤ k) → other ≤ k
      no_deeper other e (yes q) = q
      no_deeper other e (no q) = absurd (not-le_of_lt (deeper other (omega arith)) e)

  pub growing_ends : z ≤ k → z ≡ levels_up_to c m z
  growing_ends h =
      let all : z ≡ k = omega (arith, w.low) in
      all ∙ only c m z k (record { at_most = w.low; fits = rw w.found at w.fits; no_more = λ other l e. le_trans l h })

-- THE LARGEST of the first i, one of them cleared
unfoldable pub largest_of : ℕ → (ℕ → ℕ) → ℕ
largest_of zero f = 0
largest_of (suc i) f = max (largest_of i f) (f i)

largest_of_lem : (k : ℕ) (f : ℕ → ℕ) → largest_of (suc k) f ≡ largest k f
unfolding largest_of largest
largest_of_lem zero f = omega arith
largest_of_lem (suc k) f = rw (← largest_of_lem k f) refl

-- what the i-th slot holds once it or another is cleared
pub cleared_holds : (l : List ℕ) (cleared i x : ℕ) → i < length l → i ≡ cleared → x ≡ 0 → x ≡ pixel_of (with_pixel cleared 0 l) i
cleared_holds l cleared i x h q e = rw (e, ← q) (sym (get_or-set_same l i 0 0 h))

pub other_holds : (l : List ℕ) (cleared i x : ℕ) → (i ≡ cleared → ⊥) → x ≡ get_or l i 0 → x ≡ pixel_of (with_pixel cleared 0 l) i
other_holds l cleared i x q e = rw e (sym (get_or-set_other l cleared i 0 0 q))

-- i slots were seen
pub record Seen (l : List ℕ) (cleared most i : ℕ) : Type 0 where
  pub found : most ≡ largest_of i (pixel_of (with_pixel cleared 0 l))
  pub low : i ≤ length l

pub seen_begin : (l : List ℕ) (cleared : ℕ) → Seen l cleared 0 0
unfolding largest_of
seen_begin l cleared = record { found = refl; low = omega arith }

pub seen_on : (l : List ℕ) (cleared most i x most' : ℕ) → Seen l cleared most i → i < length l
    → x ≡ pixel_of (with_pixel cleared 0 l) i → most' ≡ max most x → Seen l cleared most' (i + 1)
unfolding largest_of
seen_on l cleared most i x most' w h e q = record {
  found = rw (add-one i, ← e) (q ∙ rw w.found refl);
  low = omega arith;
}

pub seen_end : (l : List ℕ) (cleared most i : ℕ) → Seen l cleared most i → length l ≤ i
    → most ≡ largest (length l - 1) (pixel_of (with_pixel cleared 0 l))
unfolding largest_of largest
seen_end [] cleared most i w h =
    let e : i ≡ 0 = omega (arith, w.low) in
    w.found ∙ rw e refl
seen_end (x ∷ xs) cleared most i w h =
    let e : i ≡ suc (length xs) = omega (arith, w.low) in
    let q : suc (length xs) - 1 ≡ length xs = omega arith in
    w.found ∙ rw (e, q) (largest_of_lem (length xs) (pixel_of (with_pixel cleared 0 (x ∷ xs))))
