-- The ways out of a credit and of an insertion, in the form in which the code comes to them: each is a case of its definition. Assumes nothing.
use Prim.Native.Nat.{ℕ, ◌+◌, ◌^◌, ◌≤◌, ◌<◌}
use mathlib.Core.Path.{◌≡◌, refl, sym, ap, ◌∙◌}
use mathlib.Core.Bool.{true}
use mathlib.Core.List.{List, ◌++◌}
use lib.ListN.{length, take, drop, set}
use native.Mathlib.Nat.{pow-zero}
use native.Mathlib.Omega.{arith}
use borrow.Author.Tests.{lt-ltb, le-ltb}
use Rattle.laws.specs.Steps.{still}
use Rattle.cell.specs.declared.Drawn.{Drawn}
use Rattle.cell.specs.Cell.{pixels_of, slot_of, pixel_of, zoom_of, shutter_of, unit_of, with_pixel, with_zoom, with_shutter, max_zoom, sound_of}
use Rattle.cell.specs.Insertion.{divide_each, pixel_step, zoom_out_of, dropped, credit_of, insert_of}
use Rattle.cell.specs.Workers.{Fit, Judged, step_of}
use Rattle.cell.proofs.CellLaws.{with_zoom_pixels, with_shutter_none}
use Rattle.cell.proofs.InsertionLaws.{credit_gained}
use Rattle.cell.proofs.SoundLaws.{sound_flat, sound_unit}

module _ (t c slot : ℕ) (b : List ℕ) (σ z top : ℕ) (full : 255 ≤ pixel_of b slot) (zoom : z ≡ zoom_of t b) (limit : top ≡ max_zoom c) where
  pub credit_zoomed : (raised px : List ℕ) (r : Drawn) (p : ℕ) → z < top → raised ≡ with_zoom t (z + 1) b → p ≡ pixels_of t
      → step_of px r ≡ divide_each c (set (take p raised) slot 256) σ → step_of (px ++ drop p raised) r ≡ credit_of t c slot b σ
  unfolding credit_of zoom_out_of
  credit_zoomed raised px r p h er ep e =
      let h' : zoom_of t b < max_zoom c = rw (← zoom, ← limit) h in
      let er' : raised ≡ with_zoom t (zoom_of t b + 1) b = er ∙ rw zoom refl in
      let divided = rw (ep, er', with_zoom_pixels t (zoom_of t b + 1) b) at e in
      simp (le-ltb _ _ full, lt-ltb _ _ h') (rw (ep, er') (ap (pixel_step t (with_zoom t (zoom_of t b + 1) b)) divided))

  pub credit_dropped : top ≤ z → dropped b σ ≡ credit_of t c slot b σ
  unfolding credit_of
  credit_dropped h =
      let h' : max_zoom c ≤ zoom_of t b = rw (← zoom, ← limit) h in
      simp (le-ltb _ _ full, le-ltb _ _ h')

module _ (t c n : ℕ) (b : List ℕ) (σ s unit : ℕ) (shutter : s ≡ shutter_of t b) (worth : unit ≡ unit_of t c b) where
  pub insert_below : (l : List ℕ) → s + 1 < unit → l ≡ with_shutter t (s + 1) b → still l σ ≡ insert_of t c n b σ
  unfolding insert_of
  insert_below l h e =
      let h' : shutter_of t b + 1 < unit_of t c b = rw (← shutter, ← worth) h in
      rw (e, shutter) (simp (lt-ltb _ _ h'))

  pub insert_credits : (l l' : List ℕ) (slot : ℕ) (r : Drawn) → unit ≤ s + 1 → l ≡ with_shutter t 0 b → slot ≡ slot_of t n
      → step_of l' r ≡ credit_of t c slot l σ → step_of l' r ≡ insert_of t c n b σ
  unfolding insert_of
  insert_credits l l' slot r h el es e =
      let h' : unit_of t c b ≤ shutter_of t b + 1 = rw (← shutter, ← worth) h in
      e ∙ rw (el, es) (simp (le-ltb _ _ h'))

-- at zoom 0 every item is a unit for the pixel
module _ (t c n : ℕ) (b : List ℕ) (σ : ℕ) (fit : Fit t c (length b)) (sound : sound_of t c b ≡ true)
    (z : ℕ) (zoom : z ≡ zoom_of t b) (flat : z ≡ 0) (slot : ℕ) (es : slot ≡ slot_of t n) where
  pub insert_flat : (l : List ℕ) (r : Drawn) → step_of l r ≡ credit_of t c slot b σ → step_of l r ≡ insert_of t c n b σ
  insert_flat l r e =
      let none : shutter_of t b ≡ 0 = sound_flat t c b sound (sym zoom ∙ flat) in
      let one : 1 ≡ unit_of t c b = rw (← zoom, flat) (sym (pow-zero c)) in
      insert_credits t c n b σ 0 1 (sym none) one b l slot r (omega arith) (sym (with_shutter_none t b fit.size_is none)) es e

  pub flat_gained : pixel_of b slot < 255 → still (with_pixel slot (pixel_of b slot + 1) b) σ ≡ insert_of t c n b σ
  flat_gained h = insert_flat (with_pixel slot (pixel_of b slot + 1) b) (record { state = σ; draws = 0; lost = 0 }) (credit_gained t c slot b σ h)

pub next_shutter_fits : (t c : ℕ) (b : List ℕ) (s unit : ℕ) → Judged t c b s unit → s + 1 < unit → s + 1 < 2 ^ 32
next_shutter_fits t c b s unit j h = omega (arith, j.unit_is, sound_unit t c b j.sound j.fit.c_low)
