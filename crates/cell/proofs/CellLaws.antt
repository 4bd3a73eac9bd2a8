-- Each field of a cell stands in bytes of its own: it reads what was written to it, and no writing of another field changes it. Assumes nothing.
use Prim.Native.Nat.{ℕ, ◌+◌, ◌-◌, ◌^◌, ◌≤◌, ◌<◌}
use mathlib.Core.Path.{◌≡◌, refl, sym, ap, ◌∙◌}
use mathlib.Core.List.{List, ◌++◌}
use lib.ListN.{length, take, drop, get_or, set, length-set, length-drop, length-append, take-append-drop, get_or-append}
use lib.Seq.{get_or-set_same, get_or-set_other, get_or-drop, take-set-le, take-set-lt, drop-set-lt, take_at, drop_at, drop-drop, ext_get_or}
use native.Mathlib.Omega.{arith}
use native.Mathlib.Decide.{dec_le, dec_lt}
use native.Mathlib.Nat.{add-zero, mod-lt}
use Rattle.laws.specs.Bytes.{bytes_of}
use Rattle.laws.specs.Parts.{part}
use Rattle.laws.proofs.PartLaws.{part_at, part_length, splice_length, splice_before, splice_dropped, splice_at_before}
use Rattle.laws.proofs.ByteLaws.{bytes_length, bytes_small, no_bytes, number_splice}
use Rattle.cell.proofs.SmallLaws.{small_set}
use Rattle.laws.proofs.SmallLaws.{Small, small_append, small_take, small_drop}
use Rattle.cell.specs.Cell.{pixels_of, shutter_at, pad_at, depth_of, slot_of, pixels_in, pixel_of, zoom_of, shutter_of, with_pixel, with_pixels, with_zoom, with_shutter}

-- what every change of a cell keeps
pub record Kept (t : ℕ) (b b' : List ℕ) : Type 0 where
  pub long : length b' ≡ length b
  pub pads : drop (pad_at t) b' ≡ drop (pad_at t) b
  pub small : Small b → Small b'

module _ (t : ℕ) where
  pub kept_same : (b : List ℕ) → Kept t b b
  kept_same b = record { long = refl; pads = refl; small = λ h. h }

  pub kept_then : (a b d : List ℕ) → Kept t a b → Kept t b d → Kept t a d
  kept_then a b d p q = record { long = q.long ∙ p.long; pads = q.pads ∙ p.pads; small = λ h. q.small (p.small h) }

  pub slot_inside : (n : ℕ) → slot_of t n < pixels_of t
  slot_inside n = mod-lt n (omega arith)

  pub slot_read : (n slot : ℕ) → slot ≡ slot_of t n → slot < pixels_of t
  slot_read n slot e = rw e (slot_inside n)

-- the zoom, the shutter and the pads are read from the bytes behind the pixels
module _ (t : ℕ) (a b : List ℕ) where
  behind_zoom : drop (t + 2) a ≡ drop (t + 2) b → zoom_of t a ≡ zoom_of t b
  behind_zoom e = rw (add-zero (t + 2)) at (sym (get_or-drop (t + 2) a 0 0) ∙ ap (λ (l : List ℕ). get_or l 0 0) e ∙ get_or-drop (t + 2) b 0 0)

  further : (j k : ℕ) → drop j a ≡ drop j b → drop (j + k) a ≡ drop (j + k) b
  further j k e = sym (drop-drop k j a) ∙ ap (λ (l : List ℕ). drop k l) e ∙ drop-drop k j b

  behind_shutter : drop (t + 3) a ≡ drop (t + 3) b → shutter_of t a ≡ shutter_of t b
  unfolding shutter_of
  behind_shutter e = rw e refl

  behind_pads : drop (t + 3) a ≡ drop (t + 3) b → drop (pad_at t) a ≡ drop (pad_at t) b
  behind_pads e =
      let q : t + 3 + 4 ≡ t + 7 = omega arith in
      rw q at (further (t + 3) 4 e)

  past_zoom : drop (t + 2) a ≡ drop (t + 2) b → drop (t + 3) a ≡ drop (t + 3) b
  past_zoom e =
      let q : t + 2 + 1 ≡ t + 3 = omega arith in
      rw q at (further (t + 2) 1 e)

-- A PIXEL written
module _ (t slot v : ℕ) (b : List ℕ) (inside : slot < pixels_of t) where
  tail_kept : drop (t + 2) (with_pixel slot v b) ≡ drop (t + 2) b
  tail_kept = drop-set-lt (t + 2) b slot v inside

  pub with_pixel_pixels : pixels_in t (with_pixel slot v b) ≡ set (pixels_in t b) slot v
  with_pixel_pixels = take-set-lt (t + 2) b slot v inside

  pub with_pixel_zoom : zoom_of t (with_pixel slot v b) ≡ zoom_of t b
  with_pixel_zoom = behind_zoom t (set b slot v) b tail_kept

  pub with_pixel_shutter : shutter_of t (with_pixel slot v b) ≡ shutter_of t b
  with_pixel_shutter = behind_shutter t (set b slot v) b (past_zoom t (set b slot v) b tail_kept)

  pub with_pixel_kept : v < 256 → Kept t b (with_pixel slot v b)
  with_pixel_kept h = record {
    long = length-set b slot v;
    pads = behind_pads t (set b slot v) b (past_zoom t (set b slot v) b tail_kept);
    small = small_set b slot v h;
  }

-- THE ZOOM written
module _ (t z : ℕ) (b : List ℕ) where
  zoom_passed : drop (t + 3) (with_zoom t z b) ≡ drop (t + 3) b
  zoom_passed = drop-set-lt (t + 3) b (t + 2) z (omega arith)

  pub with_zoom_zoom : length b ≡ depth_of t → zoom_of t (with_zoom t z b) ≡ z
  with_zoom_zoom size = get_or-set_same b (t + 2) z 0 (omega arith)

  pub with_zoom_pixels : pixels_in t (with_zoom t z b) ≡ pixels_in t b
  with_zoom_pixels = take-set-le (t + 2) b (t + 2) z (omega arith)

  pub with_zoom_pixel : (i : ℕ) → i < pixels_of t → pixel_of (with_zoom t z b) i ≡ pixel_of b i
  with_zoom_pixel i h = get_or-set_other b (t + 2) i z 0 (λ e. omega arith)

  pub with_zoom_shutter : shutter_of t (with_zoom t z b) ≡ shutter_of t b
  with_zoom_shutter = behind_shutter t (with_zoom t z b) b zoom_passed

  pub with_zoom_kept : z < 256 → Kept t b (with_zoom t z b)
  with_zoom_kept h = record {
    long = length-set b (t + 2) z;
    pads = behind_pads t (with_zoom t z b) b zoom_passed;
    small = small_set b (t + 2) z h;
  }

-- ALL PIXELS written
module _ (t : ℕ) (px b : List ℕ) (many : length px ≡ pixels_of t) where
  rest_kept : drop (t + 2) (with_pixels t px b) ≡ drop (t + 2) b
  rest_kept = drop_at px (drop (t + 2) b) (t + 2) many

  pub with_pixels_pixels : pixels_in t (with_pixels t px b) ≡ px
  with_pixels_pixels = take_at px (drop (t + 2) b) (t + 2) many

  pub with_pixels_pixel : (i : ℕ) → i < pixels_of t → pixel_of (with_pixels t px b) i ≡ get_or px i 0
  with_pixels_pixel i h = get_or-append px (drop (t + 2) b) 0 i (omega arith)

  pub with_pixels_zoom : zoom_of t (with_pixels t px b) ≡ zoom_of t b
  with_pixels_zoom = behind_zoom t (with_pixels t px b) b rest_kept

  pub with_pixels_shutter : shutter_of t (with_pixels t px b) ≡ shutter_of t b
  with_pixels_shutter = behind_shutter t (with_pixels t px b) b (past_zoom t (with_pixels t px b) b rest_kept)

  pub with_pixels_kept : (a : List ℕ) → Kept t a b → length b ≡ depth_of t → (Small a → Small px) → Kept t a (with_pixels t px b)
  with_pixels_kept a k size h = record {
    long = length-append px (drop (t + 2) b) ∙ simp length-drop (omega (arith, k.long));
    pads = behind_pads t (with_pixels t px b) b (past_zoom t (with_pixels t px b) b rest_kept) ∙ k.pads;
    small = λ s. small_append px (drop (t + 2) b) (h s) (small_drop (t + 2) b (k.small s));
  }

-- to empty a shutter that is empty changes nothing
pub with_shutter_none : (t : ℕ) (b : List ℕ) → length b ≡ depth_of t → shutter_of t b ≡ 0 → with_shutter t 0 b ≡ b
unfolding shutter_of with_shutter
with_shutter_none t b size none =
    rw (no_bytes 4 (part (t + 3) 4 b) (part_length (t + 3) 4 b (omega arith)) none, take-append-drop 4 (drop (t + 3) b)) (take-append-drop (t + 3) b)

-- THE SHUTTER written
module _ (t s : ℕ) (b : List ℕ) (size : length b ≡ depth_of t) where
  room : t + 3 + 4 ≤ length b
  room = omega arith

  four : length (bytes_of 4 s) ≡ 4
  four = bytes_length 4 s

  pub with_shutter_shutter : s < 2 ^ 32 → shutter_of t (with_shutter t s b) ≡ s
  unfolding shutter_of with_shutter
  with_shutter_shutter h = number_splice 4 (t + 3) s b room h

  pub with_shutter_pixels : pixels_in t (with_shutter t s b) ≡ pixels_in t b
  unfolding with_shutter
  with_shutter_pixels = splice_before (t + 3) 4 (bytes_of 4 s) b room four 0 (t + 2) (omega arith)

  pub with_shutter_pixel : (i : ℕ) → i < pixels_of t → pixel_of (with_shutter t s b) i ≡ pixel_of b i
  unfolding with_shutter
  with_shutter_pixel i h = splice_at_before (t + 3) 4 (bytes_of 4 s) b room four i (omega arith)

  pub with_shutter_zoom : zoom_of t (with_shutter t s b) ≡ zoom_of t b
  unfolding with_shutter
  with_shutter_zoom = splice_at_before (t + 3) 4 (bytes_of 4 s) b room four (t + 2) (omega arith)

  pub with_shutter_kept : Kept t b (with_shutter t s b)
  unfolding with_shutter
  with_shutter_kept = record {
    long = splice_length (t + 3) 4 (bytes_of 4 s) b room four;
    pads = let q : t + 3 + 4 ≡ t + 7 = omega arith in rw q at (splice_dropped (t + 3) 4 (bytes_of 4 s) b room four);
    small = λ h. small_append (take (t + 3) b) (bytes_of 4 s ++ drop 4 (drop (t + 3) b)) (small_take (t + 3) b h)
        (small_append (bytes_of 4 s) (drop 4 (drop (t + 3) b)) (bytes_small 4 s) (small_drop 4 (drop (t + 3) b) (small_drop (t + 3) b h)));
  }

-- A CELL IS KNOWN by its pixels, its zoom, its shutter, here an empty one, and its pads
module _ (t : ℕ) (a b : List ℕ) (size-a : length a ≡ depth_of t) (size-b : length b ≡ depth_of t) where
  empty_part : (l : List ℕ) → length l ≡ depth_of t → shutter_of t l ≡ 0 → bytes_of 4 0 ≡ part (shutter_at t) 4 l
  unfolding shutter_of
  empty_part l size e = no_bytes 4 (part (shutter_at t) 4 l) (part_length (shutter_at t) 4 l (omega arith)) e

  same_shutter : shutter_of t a ≡ 0 → shutter_of t b ≡ 0 → (j : ℕ) → j < 4 → get_or a (t + 3 + j) 0 ≡ get_or b (t + 3 + j) 0
  same_shutter e e' j l =
      sym (part_at (t + 3) 4 a j l) ∙ ap (λ (p : List ℕ). get_or p j 0) (sym (empty_part a size-a e) ∙ empty_part b size-b e') ∙ part_at (t + 3) 4 b j l

  same_pads : drop (pad_at t) a ≡ drop (pad_at t) b → (j : ℕ) → get_or a (t + 7 + j) 0 ≡ get_or b (t + 7 + j) 0
  same_pads e j = sym (get_or-drop (t + 7) a j 0) ∙ ap (λ (p : List ℕ). get_or p j 0) e ∙ get_or-drop (t + 7) b j 0

  pub same_cell : ((i : ℕ) → i < pixels_of t → pixel_of a i ≡ pixel_of b i) → zoom_of t a ≡ zoom_of t b → shutter_of t a ≡ 0 → shutter_of t b ≡ 0
      → drop (pad_at t) a ≡ drop (pad_at t) b → a ≡ b
  same_cell pixels zoom e e' pads = ext_get_or 0 a b (size-a ∙ sym size-b) (λ i l. by i (dec_lt i (t + 2)) (dec_le i (t + 2)) (dec_lt i (t + 7)))
    where
      by : (i : ℕ) → Dec (i < t + 2) → Dec (i ≤ t + 2) → Dec (i < t + 7) → get_or a i 0 ≡ get_or b i 0
      by i (yes h) q r = pixels i h
      by i (no h) (yes q) r =
          let at : i ≡ t + 2 = omega arith in
          rw at zoom
      by i (no h) (no q) (yes r) =
          let at : i ≡ t + 3 + (i - (t + 3)) = omega arith in
          rw at (same_shutter e e' (i - (t + 3)) (omega arith))
      by i (no h) (no q) (no r) =
          let at : i ≡ t + 7 + (i - (t + 7)) = omega arith in
          rw at (same_pads pads (i - (t + 7)))
