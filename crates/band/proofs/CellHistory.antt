-- A cell's bytes keep what they know of the history through an insertion: each of its branches is a step of the heart.
use Prim.Native.Nat.{ℕ, suc, ◌+◌, ◌^◌, ◌≤◌, ◌<◌}
use mathlib.Core.Path.{◌≡◌, refl, sym, ◌∙◌}
use mathlib.Core.Bool.{cond}
use mathlib.Core.List.{List}
use lib.Dec.{ltb}
use lib.ListN.{length, get_or, set, length-set}
use lib.Seq.{get_or-set_same, get_or-set_other, get_or-take, take-set-lt, length-take-le}
use native.Mathlib.Omega.{arith}
use native.Mathlib.Numerals.{add-one}
use borrow.Author.Tests.{ltb-true, ltb-false}
use Rattle.laws.specs.Steps.{Step, still}
use Rattle.laws.proofs.ChoiceLaws.{either}
use Rattle.cell.specs.Cell.{pixels_of, slot_of, pixels_in, pixel_of, zoom_of, shutter_of, unit_of, with_pixel, with_shutter, max_zoom}
use Rattle.cell.specs.Insertion.{divide_each, zoom_out_of, dropped, credit_of, insert_of}
use Rattle.cell.specs.Workers.{Fit}
use Rattle.laws.proofs.SmallLaws.{Small}
use Rattle.cell.proofs.CellLaws.{slot_inside, with_pixel_zoom, with_shutter_shutter, with_shutter_pixel, with_shutter_zoom, with_shutter_kept}
use Rattle.cell.proofs.PowerLaws.{zoom_fits}
use Rattle.cell.proofs.DivideLaws.{divide_each_lem}
use Rattle.cell.proofs.InsertionLaws.{zoom_out_pixels, zoom_out_zoom, credited}
use Rattle.band.proofs.SubWindow.{Rounded}
use Rattle.band.proofs.RoundedLaws.{rounded}
use Rattle.band.proofs.History as H

-- CREDIT, for any form of knowledge F that a zoom-out keeps
module _ (t c slot P : ℕ) (b : List ℕ) (σ : ℕ) (fit : Fit t c (length b)) (small : Small b) (inside : slot < pixels_of t) where
  -- the pixels with the credited one 1 more: 256 if it was full
  abbrev bumped : List ℕ
  bumped = with_pixel slot (pixel_of b slot + 1) b

  bumped_is : H.OneMore slot (pixel_of b) (pixel_of bumped)
  bumped_is = record {
    here = get_or-set_same b slot (pixel_of b slot + 1) 0 (omega (arith, fit.size_is));
    elsewhere = λ k ne. get_or-set_other b slot k (pixel_of b slot + 1) 0 ne;
  }

  abbrev zoomed : List ℕ
  zoomed = (zoom_out_of t c slot b σ).bytes

  -- ZOOM-OUT divides each of them
  out_divides : 255 ≤ pixel_of b slot → H.Divides t c (pixel_of bumped) (pixel_of zoomed)
  out_divides full i l =
      let e : 256 ≡ pixel_of b slot + 1 = omega (arith, small slot) in
      let px : set (pixels_in t b) slot 256 ≡ pixels_in t bumped = rw e (sym (take-set-lt (pixels_of t) b slot (pixel_of b slot + 1) inside)) in
      let long : length (pixels_in t bumped) ≡ pixels_of t = length-take-le (pixels_of t) bumped (simp length-set (omega (arith, fit.size_is))) in
      let r : Rounded c (get_or (pixels_in t bumped) i 0) (get_or (divide_each c (pixels_in t bumped) σ).bytes i 0) =
      divide_each_lem c (Rounded c) (λ v τ. rounded v c (omega (arith, fit.c_low)) τ) (pixels_in t bumped) σ i (rw long l) in
      let q : pixel_of zoomed i ≡ get_or (divide_each c (pixels_in t bumped) σ).bytes i 0 =
      sym (get_or-take (pixels_of t) zoomed i 0 l) ∙ rw (zoom_out_pixels t c slot b σ fit, px) refl in
      rw q (rw (get_or-take (pixels_of t) bumped i 0 l) at r)

  pub credit_keeps : zoom_of t b < max_zoom c → (F : ℕ → (ℕ → ℕ) → Type 0)
      → ((p : ℕ → ℕ) → H.OneMore slot (pixel_of b) p → F (zoom_of t b) p)
      → ((p q : ℕ → ℕ) → F (zoom_of t b) p → suc (zoom_of t b) ≤ P → H.Divides t c p q → F (suc (zoom_of t b)) q)
      → zoom_of t (credit_of t c slot b σ).bytes ≤ P → F (zoom_of t (credit_of t c slot b σ).bytes) (pixel_of (credit_of t c slot b σ).bytes)
  unfolding credit_of
  credit_keeps top F more out =
      either Kept (ltb (pixel_of b slot) 255) (still bumped σ) (cond (ltb (zoom_of t b) (max_zoom c)) (zoom_out_of t c slot b σ) (dropped b σ))
      (λ e l. rw (with_pixel_zoom t slot (pixel_of b slot + 1) b inside) (more (pixel_of bumped) bumped_is))
      (λ e. either Kept (ltb (zoom_of t b) (max_zoom c)) (zoom_out_of t c slot b σ) (dropped b σ)
      (λ e' l. let z : zoom_of t zoomed ≡ suc (zoom_of t b) = zoom_out_zoom t c slot b σ fit ∙ add-one (zoom_of t b) in
      rw z (out (pixel_of bumped) (pixel_of zoomed) (more (pixel_of bumped) bumped_is) (rw z at l) (out_divides (ltb-false (pixel_of b slot) 255 e))))
      (λ e' l. absurd (omega (arith, ltb-false (zoom_of t b) (max_zoom c) e'))))
    where
      Kept : Step → Type 0
      Kept s = zoom_of t s.bytes ≤ P → F (zoom_of t s.bytes) (pixel_of s.bytes)

-- AN INSERTION never lowers the zoom
pub insert_rises : (t c n : ℕ) (b : List ℕ) (σ : ℕ) → Fit t c (length b) → zoom_of t b ≤ zoom_of t (insert_of t c n b σ).bytes
unfolding insert_of
insert_rises t c n b σ fit =
    let zeroed = with_shutter t 0 b in
    let credit = credit_of t c (slot_of t n) zeroed σ in
    let kept : Fit t c (length zeroed) = rw (with_shutter_kept t 0 b fit.size_is).long fit in
    either (λ (s : Step). zoom_of t b ≤ zoom_of t s.bytes) (ltb (shutter_of t b + 1) (unit_of t c b)) (still (with_shutter t (shutter_of t b + 1) b) σ) credit
    (λ e. omega (arith, with_shutter_zoom t (shutter_of t b + 1) b fit.size_is))
    (λ e. omega (arith, with_shutter_zoom t 0 b fit.size_is, (credited t c (slot_of t n) zeroed σ kept (slot_inside t n)).zoom_ge))

-- WHAT A CELL HOLDS at sub-window n, of a history x, its zoom at most P
pub record Holds (t c P n : ℕ) (x : ℕ → ℕ) (b : List ℕ) : Type 0 where
  pub fit : Fit t c (length b)
  pub small : Small b
  pub known : H.Open t c P n x (zoom_of t b) (shutter_of t b) (pixel_of b)

-- with its shutter written
module _ {t c P n : ℕ} {x : ℕ → ℕ} {b : List ℕ} (top : P < max_zoom c) (h : Holds t c P n x b) where
  unit_short : c ^ zoom_of t b < 2 ^ 32
  unit_short = omega (arith, zoom_fits c h.fit.c_low (zoom_of t b) (omega (arith, h.known.zoom)))

  pub zeroed_fit : Fit t c (length (with_shutter t 0 b))
  zeroed_fit = rw (with_shutter_kept t 0 b h.fit.size_is).long h.fit

  pub zeroed_small : Small (with_shutter t 0 b)
  zeroed_small = (with_shutter_kept t 0 b h.fit.size_is).small h.small

  pub zeroed_shutter : shutter_of t (with_shutter t 0 b) ≡ 0
  zeroed_shutter = with_shutter_shutter t 0 b h.fit.size_is (omega arith)

  -- the bytes with the shutter 0 beside the shutter that they had
  pub zeroed_known : H.Open t c P n x (zoom_of t (with_shutter t 0 b)) (shutter_of t b) (pixel_of (with_shutter t 0 b))
  zeroed_known = H.open_as (with_shutter_zoom t 0 b h.fit.size_is) (with_shutter_pixel t 0 b h.fit.size_is) refl h.known

  -- INSERTION
  module _ {x' : ℕ → ℕ} (a : H.OneMore n x x') (σ : ℕ) where
    moved : shutter_of t b + 1 < unit_of t c b → Holds t c P n x' (with_shutter t (shutter_of t b + 1) b)
    moved l =
        let size = h.fit.size_is in
        let k = with_shutter_kept t (shutter_of t b + 1) b size in
        record {
          fit = rw k.long h.fit;
          small = k.small h.small;
          known = H.open_as (with_shutter_zoom t (shutter_of t b + 1) b size) (with_shutter_pixel t (shutter_of t b + 1) b size)
              (with_shutter_shutter t (shutter_of t b + 1) b size (omega (arith, unit_short))) (H.insert_shutter h.fit.c_low h.known a l);
        }

    abbrev credit : Step
    credit = credit_of t c (slot_of t n) (with_shutter t 0 b) σ

    full : unit_of t c b ≤ shutter_of t b + 1 → zoom_of t credit.bytes ≤ P → Holds t c P n x' credit.bytes
    full l most =
        let cr = credited t c (slot_of t n) (with_shutter t 0 b) σ zeroed_fit (slot_inside t n) in
        let z = with_shutter_zoom t 0 b h.fit.size_is in
        record {
          fit = rw cr.kept.long zeroed_fit;
          small = cr.kept.small zeroed_small;
          known = rw (cr.shutter, zeroed_shutter)
              (credit_keeps t c (slot_of t n) P (with_shutter t 0 b) σ zeroed_fit zeroed_small (slot_inside t n) (omega (arith, zeroed_known.zoom))
              (λ Z p. H.Open t c P n x' Z 0 p) (λ p m. H.insert_credit h.fit.c_low zeroed_known a (rw z l) m)
              (λ p q o room d. H.open_out h.fit.c_low o room d) most);
        }

    pub insert_holds : zoom_of t (insert_of t c n b σ).bytes ≤ P → Holds t c P n x' (insert_of t c n b σ).bytes
    unfolding insert_of
    insert_holds =
        either (λ (s : Step). zoom_of t s.bytes ≤ P → Holds t c P n x' s.bytes) (ltb (shutter_of t b + 1) (unit_of t c b))
        (still (with_shutter t (shutter_of t b + 1) b) σ) credit (λ e l. moved (ltb-true _ _ e)) (λ e l. full (ltb-false _ _ e) l)
