-- Each pixel after each stage of a crossing: a pixel is written at its own slot alone. Assumes nothing.
use Prim.Native.Nat.{ℕ, zero, suc, ◌+◌, ◌*◌, ◌≤◌, ◌<◌}
use mathlib.Core.Path.{◌≡◌, refl, sym, ◌∙◌}
use mathlib.Core.List.{List, [], ◌∷◌}
use lib.ListN.{length, get_or, replicate, length-set, length-replicate, get_or-replicate}
use lib.Seq.{get_or-set_same, get_or-set_other, get_or-take, length-take-le}
use native.Mathlib.Omega.{arith}
use native.Mathlib.Nat.{zero-mul}
use native.Mathlib.Decide.{ℕ_discrete}
use Rattle.cell.specs.Cell.{pixels_of, slot_of, pixels_in, pixel_of, with_pixel, with_pixels}
use Rattle.cell.specs.Crossing.{clear_of, emptied, times_each, zoomed_in}
use Rattle.cell.specs.Workers.{Fit}
use Rattle.cell.proofs.CrossingLaws.{zeroed_size, times_length}
use Rattle.cell.proofs.CellLaws.{slot_inside, with_zoom_pixel, with_pixels_pixel, with_shutter_pixel}

-- CLEAR: a slot that is none of those cleared stays
module _ (t : ℕ) where
  pub clear_other : (k first : ℕ) (b : List ℕ) (i : ℕ) → ((j : ℕ) → first ≤ j → j < first + k → i ≡ slot_of t j → ⊥)
      → pixel_of (clear_of t k first b) i ≡ pixel_of b i
  unfolding clear_of
  clear_other zero first b i h = refl
  clear_other (suc k) first b i h =
      clear_other k (first + 1) (with_pixel (slot_of t first) 0 b) i (λ j lo hi. h j (omega arith) (omega arith))
      ∙ get_or-set_other b (slot_of t first) i 0 0 (h first (omega arith) (omega arith))

  -- a 0 stays 0, and each that is cleared is 0
  clear_zero : (k first : ℕ) (b : List ℕ) (i : ℕ) → i < length b → pixel_of b i ≡ 0 → pixel_of (clear_of t k first b) i ≡ 0
  unfolding clear_of
  clear_zero zero first b i l h = h
  clear_zero (suc k) first b i l h =
      clear_zero k (first + 1) (with_pixel (slot_of t first) 0 b) i (rw (length-set b (slot_of t first) 0) l) (by (ℕ_discrete i (slot_of t first)))
    where
      by : Dec (i ≡ slot_of t first) → pixel_of (with_pixel (slot_of t first) 0 b) i ≡ 0
      by (yes e) = rw e (get_or-set_same b (slot_of t first) 0 0 (rw (← e) l))
      by (no e) = get_or-set_other b (slot_of t first) i 0 0 e ∙ h

  pub clear_here : (k first : ℕ) (b : List ℕ) (j : ℕ) → pixels_of t ≤ length b → first ≤ j → j < first + k → pixel_of (clear_of t k first b) (slot_of t j) ≡ 0
  unfolding clear_of
  clear_here zero first b j room lo hi = absurd (omega arith)
  clear_here (suc k) first b j room lo hi =
      by (ℕ_discrete j first) (λ ne. clear_here k (first + 1) next j (rw (length-set b (slot_of t first) 0) room) (omega arith) (omega arith))
    where
      next : List ℕ
      next = with_pixel (slot_of t first) 0 b

      Cleared : Type 0
      Cleared = pixel_of (clear_of t k (first + 1) next) (slot_of t j) ≡ 0

      by : Dec (j ≡ first) → ((j ≡ first → ⊥) → Cleared) → Cleared
      by (yes e) f =
          let inside = slot_inside t first in
          let here : pixel_of next (slot_of t first) ≡ 0 = get_or-set_same b (slot_of t first) 0 0 (omega arith) in
          rw e (clear_zero k (first + 1) next (slot_of t first) (rw (length-set b (slot_of t first) 0) (omega arith)) here)
      by (no ne) f = f ne

-- THE FAR JUMP leaves no pixel
pub emptied_pixel : (t c : ℕ) (b : List ℕ) → Fit t c (length b) → (i : ℕ) → i < pixels_of t → pixel_of (emptied t b) i ≡ 0
unfolding emptied
emptied_pixel t c b fit i l =
    let zeros : List ℕ = replicate (pixels_of t) 0 in
    with_shutter_pixel t 0 (with_pixels t zeros b) (zeroed_size t c b fit) i l ∙ with_pixels_pixel t zeros b (length-replicate (pixels_of t) 0) i l
    ∙ get_or-replicate (pixels_of t) i 0 0 l

-- ONE LEVEL IN: each pixel times c
times_pixel : (c : ℕ) (l : List ℕ) (i : ℕ) → get_or (times_each c l) i 0 ≡ get_or l i 0 * c
unfolding times_each
times_pixel c [] i = sym (zero-mul c)
times_pixel c (x ∷ xs) zero = refl
times_pixel c (x ∷ xs) (suc i) = times_pixel c xs i

pub zoomed_pixel : (t c z : ℕ) (b : List ℕ) → Fit t c (length b) → (i : ℕ) → i < pixels_of t → pixel_of (zoomed_in t c z b) i ≡ pixel_of b i * c
unfolding zoomed_in
zoomed_pixel t c z b fit i l =
    let px = times_each c (pixels_in t b) in
    let long : length px ≡ pixels_of t = times_length c (pixels_in t b) ∙ length-take-le (pixels_of t) b (omega (arith, fit.size_is)) in
    with_zoom_pixel t z (with_pixels t px b) i l ∙ with_pixels_pixel t px b long i l ∙ times_pixel c (pixels_in t b) i ∙ rw (get_or-take (pixels_of t) b i 0 l) refl
