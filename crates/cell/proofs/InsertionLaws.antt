-- What an insertion leaves of a cell, read off the cases of its definition: the length, the pads, a sound cell, the random state, what is lost.
use Prim.Native.Nat.{ℕ, ◌+◌, ◌≤◌, ◌<◌}
use mathlib.Core.Path.{◌≡◌, refl, ◌∙◌}
use mathlib.Core.Bool.{true, cond}
use mathlib.Core.List.{List}
use lib.Dec.{ltb}
use lib.ListN.{length, set, length-set}
use lib.Seq.{length-take-le}
use native.Mathlib.Omega.{arith}
use borrow.Author.Tests.{lt-ltb, le-ltb, ltb-true, ltb-false}
use Rattle.laws.specs.Steps.{Step, still}
use Rattle.laws.proofs.ChoiceLaws.{either}
use Rattle.rounding.specs.Draws.{state_after}
use Rattle.cell.specs.Cell.{pixels_of, slot_of, pixels_in, pixel_of, zoom_of, shutter_of, unit_of, with_pixel, with_zoom, with_shutter, max_zoom, sound_of}
use Rattle.cell.specs.Insertion.{divide_each, zoom_out_of, dropped, credit_of, insert_of}
use Rattle.cell.specs.Workers.{Fit}
use Rattle.cell.proofs.SmallLaws.{bounded_set}
use Rattle.laws.proofs.SmallLaws.{Small, small_take}
use Rattle.cell.proofs.CellLaws.{Kept, kept_same, kept_then, slot_inside, with_pixel_zoom, with_pixel_shutter, with_pixel_kept}
use Rattle.cell.proofs.CellLaws.{with_zoom_zoom, with_zoom_shutter, with_zoom_kept}
use Rattle.cell.proofs.CellLaws.{with_pixels_pixels, with_pixels_zoom, with_pixels_shutter, with_pixels_kept}
use Rattle.cell.proofs.CellLaws.{with_shutter_shutter, with_shutter_zoom, with_shutter_kept}
use Rattle.cell.proofs.DivideLaws.{divide_length, divide_draws, divide_state, divide_lost, divide_small}
use Rattle.cell.proofs.PowerLaws.{max_zoom_limit}
use Rattle.cell.proofs.SoundLaws.{sound_zoom, sound_unit, sound_is, sound_empty}

-- what a credit, and a zoom-out in it, leaves
pub record Credited (t c : ℕ) (b : List ℕ) (σ : ℕ) (s : Step) : Type 0 where
  pub kept : Kept t b s.bytes
  pub shutter : shutter_of t s.bytes ≡ shutter_of t b
  pub zoom_low : zoom_of t b ≤ max_zoom c → zoom_of t s.bytes ≤ max_zoom c
  pub zoom_ge : zoom_of t b ≤ zoom_of t s.bytes
  pub zoom_le : zoom_of t s.bytes ≤ zoom_of t b + 1
  pub state : s.state ≡ state_after s.draws σ
  pub draws : s.draws ≤ pixels_of t
  pub lost : s.lost ≤ 1
  pub lost_below : zoom_of t b < max_zoom c → s.lost ≡ 0

-- ZOOM-OUT
module _ (t c slot : ℕ) (b : List ℕ) (σ : ℕ) (fit : Fit t c (length b)) where
  -- what is divided
  abbrev dividends : List ℕ
  dividends = set (pixels_in t b) slot 256

  abbrev quotients : Step
  quotients = divide_each c dividends σ

  abbrev raised : List ℕ
  raised = with_zoom t (zoom_of t b + 1) b

  dividends_length : length dividends ≡ pixels_of t
  dividends_length = length-set (pixels_in t b) slot 256 ∙ length-take-le (t + 2) b (omega (arith, fit.size_is))

  quotients_length : length quotients.bytes ≡ pixels_of t
  quotients_length = divide_length c dividends σ ∙ dividends_length

  quotients_small : Small b → Small quotients.bytes
  quotients_small h =
      divide_small c fit.c_low dividends σ
      (bounded_set 257 (pixels_in t b) slot 256 (omega arith) (λ i. omega (arith, small_take (t + 2) b h i)))

  pub zoom_out_pixels : pixels_in t (zoom_out_of t c slot b σ).bytes ≡ (divide_each c (set (pixels_in t b) slot 256) σ).bytes
  unfolding zoom_out_of
  zoom_out_pixels = with_pixels_pixels t quotients.bytes raised quotients_length

  pub zoom_out_zoom : zoom_of t (zoom_out_of t c slot b σ).bytes ≡ zoom_of t b + 1
  unfolding zoom_out_of
  zoom_out_zoom = with_pixels_zoom t quotients.bytes raised quotients_length ∙ with_zoom_zoom t (zoom_of t b + 1) b fit.size_is

  zoom_out_shutter : shutter_of t (zoom_out_of t c slot b σ).bytes ≡ shutter_of t b
  unfolding zoom_out_of
  zoom_out_shutter = with_pixels_shutter t quotients.bytes raised quotients_length ∙ with_zoom_shutter t (zoom_of t b + 1) b

  zoom_out_kept : zoom_of t b < max_zoom c → Kept t b (zoom_out_of t c slot b σ).bytes
  unfolding zoom_out_of
  zoom_out_kept h =
      let k : Kept t b raised = with_zoom_kept t (zoom_of t b + 1) b (omega (arith, max_zoom_limit c)) in
      with_pixels_kept t quotients.bytes raised quotients_length b k (k.long ∙ fit.size_is) quotients_small

  zoom_out_credited : zoom_of t b < max_zoom c → Credited t c b σ (zoom_out_of t c slot b σ)
  unfolding zoom_out_of
  zoom_out_credited h = record {
    kept = zoom_out_kept h;
    shutter = zoom_out_shutter;
    zoom_low = λ l. rw zoom_out_zoom (omega arith);
    zoom_ge = rw zoom_out_zoom (omega arith);
    zoom_le = rw zoom_out_zoom (omega arith);
    state = divide_state c dividends σ;
    draws = omega (arith, dividends_length, divide_draws c dividends σ);
    lost = omega (arith, divide_lost c dividends σ);
    lost_below = λ l. divide_lost c dividends σ;
  }

pub zoom_out_lost : (t c slot : ℕ) (b : List ℕ) (σ : ℕ) → (zoom_out_of t c slot b σ).lost ≡ 0
unfolding zoom_out_of
zoom_out_lost t c slot b σ = divide_lost c (set (pixels_in t b) slot 256) σ

-- CREDIT
pub credit_gained : (t c slot : ℕ) (b : List ℕ) (σ : ℕ) → pixel_of b slot < 255 → still (with_pixel slot (pixel_of b slot + 1) b) σ ≡ credit_of t c slot b σ
unfolding credit_of
credit_gained t c slot b σ h = simp (lt-ltb _ _ h)

pub credit_out : (t c slot : ℕ) (b : List ℕ) (σ : ℕ) → 255 ≤ pixel_of b slot → zoom_of t b < max_zoom c → credit_of t c slot b σ ≡ zoom_out_of t c slot b σ
unfolding credit_of
credit_out t c slot b σ full h = simp (le-ltb _ _ full, lt-ltb _ _ h)

pub credit_drops : (t c slot : ℕ) (b : List ℕ) (σ : ℕ) → 255 ≤ pixel_of b slot → max_zoom c ≤ zoom_of t b → credit_of t c slot b σ ≡ dropped b σ
unfolding credit_of
credit_drops t c slot b σ full h = simp (le-ltb _ _ full, le-ltb _ _ h)

module _ (t c slot : ℕ) (b : List ℕ) (σ : ℕ) (fit : Fit t c (length b)) (inside : slot < pixels_of t) where
  pub credited : Credited t c b σ (credit_of t c slot b σ)
  unfolding credit_of state_after
  credited =
      either (Credited t c b σ) (ltb (pixel_of b slot) 255) (still (with_pixel slot (pixel_of b slot + 1) b) σ)
      (cond (ltb (zoom_of t b) (max_zoom c)) (zoom_out_of t c slot b σ) (dropped b σ))
      (λ e. record {
        kept = with_pixel_kept t slot (pixel_of b slot + 1) b inside (omega (arith, ltb-true (pixel_of b slot) 255 e));
        shutter = with_pixel_shutter t slot (pixel_of b slot + 1) b inside;
        zoom_low = λ l. rw (with_pixel_zoom t slot (pixel_of b slot + 1) b inside) l;
        zoom_ge = omega (arith, with_pixel_zoom t slot (pixel_of b slot + 1) b inside);
        zoom_le = omega (arith, with_pixel_zoom t slot (pixel_of b slot + 1) b inside);
        state = refl;
        draws = omega arith;
        lost = omega arith;
        lost_below = λ l. refl;
      })
      (λ e. either (Credited t c b σ) (ltb (zoom_of t b) (max_zoom c)) (zoom_out_of t c slot b σ) (dropped b σ)
      (λ e'. zoom_out_credited t c slot b σ fit (ltb-true _ _ e'))
      (λ e'. record {
        kept = kept_same t b;
        shutter = refl;
        zoom_low = λ l. l;
        zoom_ge = omega arith;
        zoom_le = omega arith;
        state = refl;
        draws = omega arith;
        lost = omega arith;
        lost_below = λ l. absurd (omega (arith, ltb-false (zoom_of t b) (max_zoom c) e'));
      }))

-- INSERT
pub record Inserted (t c : ℕ) (b : List ℕ) (σ : ℕ) (s : Step) : Type 0 where
  pub kept : Kept t b s.bytes
  pub sound : sound_of t c b ≡ true → sound_of t c s.bytes ≡ true
  pub state : s.state ≡ state_after s.draws σ
  pub draws : s.draws ≤ pixels_of t
  pub lost : s.lost ≤ 1
  pub lost_below : zoom_of t b < max_zoom c → s.lost ≡ 0

module _ (t c n : ℕ) (b : List ℕ) (σ : ℕ) (fit : Fit t c (length b)) where
  -- the cell whose shutter is closed
  abbrev closed : List ℕ
  closed = with_shutter t 0 b

  closed_kept : Kept t b closed
  closed_kept = with_shutter_kept t 0 b fit.size_is

  closed_credited : Credited t c closed σ (credit_of t c (slot_of t n) closed σ)
  closed_credited = credited t c (slot_of t n) closed σ (rw closed_kept.long fit) (slot_inside t n)

  below_sound : shutter_of t b + 1 < unit_of t c b → sound_of t c b ≡ true → sound_of t c (with_shutter t (shutter_of t b + 1) b) ≡ true
  below_sound h sound =
      let z = with_shutter_zoom t (shutter_of t b + 1) b fit.size_is in
      sound_is t c (with_shutter t (shutter_of t b + 1) b) (rw z (sound_zoom t c b sound))
      (rw (z, with_shutter_shutter t (shutter_of t b + 1) b fit.size_is (omega (arith, sound_unit t c b sound fit.c_low))) h)

  credit_sound : sound_of t c b ≡ true → sound_of t c (credit_of t c (slot_of t n) closed σ).bytes ≡ true
  credit_sound sound =
      sound_empty t c (credit_of t c (slot_of t n) closed σ).bytes fit.c_low
      (closed_credited.zoom_low (rw (with_shutter_zoom t 0 b fit.size_is) (sound_zoom t c b sound)))
      (closed_credited.shutter ∙ with_shutter_shutter t 0 b fit.size_is (omega arith))

  pub inserted : Inserted t c b σ (insert_of t c n b σ)
  unfolding insert_of state_after
  inserted =
      either (Inserted t c b σ) (ltb (shutter_of t b + 1) (unit_of t c b)) (still (with_shutter t (shutter_of t b + 1) b) σ) (credit_of t c (slot_of t n) closed σ)
      (λ e. record {
        kept = with_shutter_kept t (shutter_of t b + 1) b fit.size_is;
        sound = below_sound (ltb-true _ _ e);
        state = refl;
        draws = omega arith;
        lost = omega arith;
        lost_below = λ l. refl;
      })
      (λ e. record {
        kept = kept_then t b closed (credit_of t c (slot_of t n) closed σ).bytes closed_kept closed_credited.kept;
        sound = credit_sound;
        state = closed_credited.state;
        draws = closed_credited.draws;
        lost = closed_credited.lost;
        lost_below = λ l. closed_credited.lost_below (rw (with_shutter_zoom t 0 b fit.size_is) l);
      })
