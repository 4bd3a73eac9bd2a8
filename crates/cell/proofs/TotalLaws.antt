-- An item is one more: in the shutter, or with the shutter's items as one unit of a pixel. Only a credited 255 breaks this, by rounding, or by dropping, which is told as lost.
use Prim.Native.Nat.{ℕ, zero, suc, ◌+◌, ◌^◌, ◌≤◌, ◌<◌}
use mathlib.Core.Path.{◌≡◌, refl, sym, ap, ◌∙◌}
use mathlib.Core.Bool.{true}
use mathlib.Core.List.{List, [], ◌∷◌}
use lib.Dec.{ltb}
use lib.ListN.{length, get_or, set}
use lib.Seq.{get_or-take, length-take-le}
use native.Mathlib.Omega.{arith}
use native.Mathlib.Decide.{dec_lt}
use native.Mathlib.Nat.{mul-add, mul-one, mul-zero, add-zero}
use borrow.Author.Tests.{ltb-true, ltb-false}
use Rattle.laws.specs.Steps.{Step, still}
use Rattle.laws.proofs.ChoiceLaws.{either}
use Rattle.cell.specs.Cell.{pixels_of, slot_of, pixels_in, pixel_of, zoom_of, shutter_of, unit_of, with_shutter, max_zoom, sound_of, sum_of, total_of}
use Rattle.cell.specs.Insertion.{credit_of, insert_of}
use Rattle.cell.specs.Lost.{Balances}
use Rattle.cell.specs.Workers.{Fit}
use Rattle.cell.proofs.CellLaws.{slot_inside, with_pixel_pixels, with_pixel_zoom, with_pixel_shutter}
use Rattle.cell.proofs.CellLaws.{with_shutter_shutter, with_shutter_pixels, with_shutter_pixel, with_shutter_zoom, with_shutter_kept}
use Rattle.cell.proofs.SoundLaws.{sound_shutter, sound_unit}
use Rattle.cell.proofs.InsertionLaws.{credit_gained, credit_out, credit_drops, zoom_out_zoom}

pub sum_more : (l : List ℕ) (i more : ℕ) → i < length l → sum_of (set l i (get_or l i 0 + more)) ≡ sum_of l + more
unfolding sum_of
sum_more [] i more h = absurd (omega arith)
sum_more (x ∷ xs) zero more h = omega arith
sum_more (x ∷ xs) (suc i) more h = omega (arith, sum_more xs i more (omega arith))

module _ (t c : ℕ) (b : List ℕ) (σ : ℕ) (fit : Fit t c (length b)) where
  pub credit_total : (slot : ℕ) → slot < pixels_of t → pixel_of b slot < 255 → total_of t c (credit_of t c slot b σ).bytes ≡ total_of t c b + unit_of t c b
  unfolding total_of
  credit_total slot inside low =
      let more : sum_of (set (pixels_in t b) slot (pixel_of b slot + 1)) ≡ sum_of (pixels_in t b) + 1 =
      rw (get_or-take (t + 2) b slot 0 inside) at (sum_more (pixels_in t b) slot 1 (rw (length-take-le (t + 2) b (omega (arith, fit.size_is))) inside)) in
      let v = pixel_of b slot + 1 in
      rw (← credit_gained t c slot b σ low, with_pixel_shutter t slot v b inside, with_pixel_zoom t slot v b inside, with_pixel_pixels t slot v b inside)
      (rw more
      (omega (arith, mul-add (unit_of t c b) (sum_of (pixels_in t b)) 1, mul-one (unit_of t c b))))

  -- a credit that doesn't raise the zoom adds its unit to the total, or it is lost
  credit_balance : (slot : ℕ) → slot < pixels_of t → zoom_of t (credit_of t c slot b σ).bytes ≡ zoom_of t b
      → Balances t c (credit_of t c slot b σ).bytes (credit_of t c slot b σ).lost (total_of t c b + unit_of t c b)
  credit_balance slot inside = by (dec_lt (pixel_of b slot) 255) (dec_lt (zoom_of t b) (max_zoom c))
    where
      by : Dec (pixel_of b slot < 255) → Dec (zoom_of t b < max_zoom c) → zoom_of t (credit_of t c slot b σ).bytes ≡ zoom_of t b
          → Balances t c (credit_of t c slot b σ).bytes (credit_of t c slot b σ).lost (total_of t c b + unit_of t c b)
      by (yes low) z e =
          let none : (credit_of t c slot b σ).lost ≡ 0 = ap (λ (s : Step). s.lost) (sym (credit_gained t c slot b σ low)) in
          rw (none, mul-zero (c ^ zoom_of t (credit_of t c slot b σ).bytes), add-zero (total_of t c (credit_of t c slot b σ).bytes)) (credit_total slot inside low)
      by (no full) (yes z) e =
          let out = rw (credit_out t c slot b σ (omega arith) z) at e in
          absurd (omega (arith, zoom_out_zoom t c slot b σ fit))
      by (no full) (no top) e = rw (credit_drops t c slot b σ (omega arith) (omega arith), mul-one (unit_of t c b)) refl

module _ (t c n : ℕ) (b : List ℕ) (σ : ℕ) (fit : Fit t c (length b)) (sound : sound_of t c b ≡ true) where
  shutter_total : (s : ℕ) → s ≤ unit_of t c b → total_of t c (with_shutter t s b) + shutter_of t b ≡ total_of t c b + s
  unfolding total_of
  shutter_total s h =
      let written = with_shutter_shutter t s b fit.size_is (omega (arith, sound_unit t c b sound fit.c_low)) in
      rw (written, with_shutter_zoom t s b fit.size_is, with_shutter_pixels t s b fit.size_is) (omega arith)

  -- where the shutter closes, the pixel that is credited has room
  pub insert_total : (unit_of t c b ≤ shutter_of t b + 1 → pixel_of b (slot_of t n) < 255) → total_of t c (insert_of t c n b σ).bytes ≡ total_of t c b + 1
  unfolding insert_of
  insert_total low =
      either (λ (s : Step). total_of t c s.bytes ≡ total_of t c b + 1) (ltb (shutter_of t b + 1) (unit_of t c b))
      (still (with_shutter t (shutter_of t b + 1) b) σ) (credit_of t c (slot_of t n) (with_shutter t 0 b) σ)
      (λ e. omega (arith, shutter_total (shutter_of t b + 1) (omega (arith, ltb-true (shutter_of t b + 1) (unit_of t c b) e))))
      (λ e. let full : unit_of t c b ≤ shutter_of t b + 1 = ltb-false _ _ e in
      let closed : Fit t c (length (with_shutter t 0 b)) = rw (with_shutter_kept t 0 b fit.size_is).long fit in
      let room : pixel_of (with_shutter t 0 b) (slot_of t n) < 255 = rw (with_shutter_pixel t 0 b fit.size_is (slot_of t n) (slot_inside t n)) (low full) in
      let unit : unit_of t c (with_shutter t 0 b) ≡ unit_of t c b = rw (with_shutter_zoom t 0 b fit.size_is) in
      let credit = credit_total t c (with_shutter t 0 b) σ closed (slot_of t n) (slot_inside t n) room in
      omega (arith, credit, unit, shutter_total 0 (omega arith), sound_shutter t c b sound))

  -- document 02, T-04
  pub insert_balance : zoom_of t (insert_of t c n b σ).bytes ≡ zoom_of t b
      → Balances t c (insert_of t c n b σ).bytes (insert_of t c n b σ).lost (total_of t c b + 1)
  unfolding insert_of
  insert_balance =
      let shut = with_shutter t 0 b in
      let same = with_shutter_zoom t 0 b fit.size_is in
      let unit : unit_of t c shut ≡ unit_of t c b = rw same in
      either (λ (s : Step). zoom_of t s.bytes ≡ zoom_of t b → Balances t c s.bytes s.lost (total_of t c b + 1)) (ltb (shutter_of t b + 1) (unit_of t c b))
      (still (with_shutter t (shutter_of t b + 1) b) σ) (credit_of t c (slot_of t n) shut σ)
      (λ e q. rw (mul-zero (c ^ zoom_of t (with_shutter t (shutter_of t b + 1) b)))
      (omega (arith, shutter_total (shutter_of t b + 1) (omega (arith, ltb-true (shutter_of t b + 1) (unit_of t c b) e)))))
      (λ e q. let full : unit_of t c b ≤ shutter_of t b + 1 = ltb-false _ _ e in
      let closed : Fit t c (length shut) = rw (with_shutter_kept t 0 b fit.size_is).long fit in
      let credit = credit_balance t c shut σ closed (slot_of t n) (slot_inside t n) (q ∙ sym same) in
      omega (arith, credit, unit, shutter_total 0 (omega arith), sound_shutter t c b sound))
