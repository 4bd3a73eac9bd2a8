-- One level in multiplies the largest pixel by c, and is taken just where the product still fits a byte: so the levels taken are the largest number
-- that fits, by induction on the zoom. Assumes nothing.
use Prim.Native.Nat.{ℕ, zero, suc, ◌+◌, ◌*◌, ◌^◌, ◌≤◌, ◌<◌}
use mathlib.Core.Path.{◌≡◌, refl, sym, ◌∙◌}
use mathlib.Core.Bool.{true, false, true≢false}
use mathlib.Core.List.{List, [], ◌∷◌}
use lib.ListN.{length, get_or}
use lib.Seq.{get_or-take, length-take-le}
use lib.Pow.{pow-add}
use native.Mathlib.Omega.{arith}
use native.Mathlib.Nat.{pow-zero, pow-suc, one-le-pow, one-mul, mul-zero, mul_comm, mul_assoc, mul-le-mul_left, mul-le-mul_right}
use native.Mathlib.Nat.{le-div_iff_mul-le, lt_of_not-le, le_trans}
use borrow.Author.Tests.{le-leb}
use Rattle.laws.proofs.ChoiceLaws.{either}
use Rattle.laws.proofs.SmallLaws.{Small}
use Rattle.laws.proofs.SumLaws.{le_largest, largest_lt, largest_times}
use Rattle.cell.specs.Cell.{pixels_of, pixels_in, pixel_of, zoom_of, shutter_of, unit_of}
use Rattle.cell.specs.Crossing.{ceiling_of, all_at_most, zoomed_in, zoom_in_from, zoom_in_of}
use Rattle.cell.specs.Workers.{Fit}
use Rattle.cell.proofs.LargestLaws.{only}
use Rattle.cell.proofs.CrossingLaws.{zoomed_kept, zoomed_zoom, ZoomedIn, zoom_in_leaves}
use Rattle.cell.proofs.PixelLaws.{zoomed_pixel}
use Rattle.cell.specs.ZoomIn.{largest_pixel, levels_in, Largest, FallsBy}

-- THE TEST fails where c times the largest pixel is no byte
all_at_most_lem : (h : ℕ) (l : List ℕ) → ((i : ℕ) → i < length l → get_or l i 0 ≤ h) → all_at_most h l ≡ true
unfolding all_at_most
all_at_most_lem h [] each = refl
all_at_most_lem h (x ∷ xs) each = rw (le-leb x h (each 0 (omega arith))) (all_at_most_lem h xs (λ i l. each (suc i) (omega arith)))

module _ (t c : ℕ) (b : List ℕ) (fit : Fit t c (length b)) where
  pixels_long : length (pixels_in t b) ≡ pixels_of t
  pixels_long = length-take-le (pixels_of t) b (omega (arith, fit.size_is))

  test_fails : all_at_most (ceiling_of c) (pixels_in t b) ≡ false → 255 < c * largest_pixel t b
  unfolding ceiling_of
  test_fails e =
      let base : 0 < c = omega (arith, fit.c_low) in
      let each : c * largest_pixel t b ≤ 255 → (i : ℕ) → i < length (pixels_in t b) → get_or (pixels_in t b) i 0 ≤ ceiling_of c =
      λ l i s.
      let below : i < pixels_of t = omega (arith, pixels_long) in
      let top : c * pixel_of b i ≤ c * largest_pixel t b = mul-le-mul_left c (le_largest (t + 1) (pixel_of b) i (omega arith)) in
      rw (get_or-take (pixels_of t) b i 0 below) ((le-div_iff_mul-le base).1 (rw (mul_comm (pixel_of b i) c) (le_trans top l)))
      in
      lt_of_not-le (λ l. true≢false (sym (all_at_most_lem (ceiling_of c) (pixels_in t b) (each l)) ∙ e))

  largest_small : Small b → largest_pixel t b ≤ 255
  largest_small small = omega (arith, largest_lt (t + 1) 256 (pixel_of b) (λ i l. small i))

-- ZOOMING IN, from the zoom z
record Falls (t c z k : ℕ) (b after : List ℕ) : Type 0 where
  largest_k : Largest c (largest_pixel t b) z k
  zoom : zoom_of t after + k ≡ z
  pixels : (slot : ℕ) → slot < pixels_of t → pixel_of after slot ≡ c ^ k * pixel_of b slot

-- not by one level
module _ (t c z : ℕ) (b : List ℕ) (is : zoom_of t b ≡ z) (low : largest_pixel t b ≤ 255) where
  stays : ((k : ℕ) → k ≤ z → c ^ k * largest_pixel t b ≤ 255 → k ≤ 0) → Falls t c z 0 b b
  stays none = record {
    largest_k = record { at_most = omega arith; fits = rw (pow-zero c, one-mul (largest_pixel t b)) low; no_more = none };
    zoom = omega (arith, is);
    pixels = λ slot l. sym (rw (pow-zero c) (one-mul (pixel_of b slot)));
  }

module _ (t c z : ℕ) (b : List ℕ) (fit : Fit t c (length b)) where
  abbrev next : List ℕ
  next = zoomed_in t c z b

  power_on : (k x : ℕ) → c ^ suc k * x ≡ c ^ k * (c * x)
  power_on k x = rw (pow-suc c k) (mul_assoc (c ^ k) c x)

  next_pixel : (i : ℕ) → i < pixels_of t → pixel_of next i ≡ c * pixel_of b i
  next_pixel i l = zoomed_pixel t c z b fit i l ∙ mul_comm (pixel_of b i) c

  next_largest : largest_pixel t next ≡ c * largest_pixel t b
  next_largest = largest_times (t + 1) c (pixel_of b) (pixel_of next) (λ i l. next_pixel i (omega arith))

  -- by one level more than the next cell
  one_more : (k : ℕ) (after : List ℕ) → Falls t c z k next after → Falls t c (suc z) (suc k) b after
  one_more k after w = record {
    largest_k = record {
      at_most = omega (arith, w.largest_k.at_most);
      fits = rw (power_on k (largest_pixel t b), ← next_largest) w.largest_k.fits;
      no_more = more;
    };
    zoom = omega (arith, w.zoom);
    pixels = λ slot l. w.pixels slot l ∙ rw (next_pixel slot l) (sym (power_on k (pixel_of b slot)));
  }
    where
      more : (other : ℕ) → other ≤ suc z → c ^ other * largest_pixel t b ≤ 255 → other ≤ suc k
      more zero l e = omega arith
      more (suc other) l e =
          let deeper : other ≤ k = w.largest_k.no_more other (omega arith) (rw (next_largest, ← power_on other (largest_pixel t b)) e) in
          omega arith

  -- the next level would not fit, nor would a deeper one
  no_level : 255 < c * largest_pixel t b → (k : ℕ) → k ≤ suc z → c ^ k * largest_pixel t b ≤ 255 → k ≤ 0
  no_level over zero l e = omega arith
  no_level over (suc k) l e =
      let some : 1 ≤ c ^ k = one-le-pow k c (omega (arith, fit.c_low)) in
      let grown : 1 * (c * largest_pixel t b) ≤ c ^ k * (c * largest_pixel t b) = mul-le-mul_right (c * largest_pixel t b) some in
      absurd (omega (arith, grown, one-mul (c * largest_pixel t b), rw (power_on k (largest_pixel t b)) at e))

zoom_in_falls : (t c z : ℕ) (b : List ℕ) → Fit t c (length b) → Small b → zoom_of t b ≡ z → (k : ℕ) × Falls t c z k b (zoom_in_from t c z b)
unfolding zoom_in_from
zoom_in_falls t c zero b fit small is = (0, stays t c 0 b is (largest_small t c b fit small) (λ k l e. l))
zoom_in_falls t c (suc z) b fit small is =
    either (λ (after : List ℕ). (k : ℕ) × Falls t c (suc z) k b after) (all_at_most (ceiling_of c) (pixels_in t b)) (zoom_in_from t c z (zoomed_in t c z b)) b
    (λ e.
    let kept = zoomed_kept t c z b fit e (omega (arith, small (t + 2))) in
    let rest = zoom_in_falls t c z (zoomed_in t c z b) (rw kept.long fit) (kept.small small) (zoomed_zoom t c z b fit e) in
    (suc rest.0, one_more t c z b fit rest.0 _ rest.1))
    (λ e. (0, stays t c (suc z) b is (largest_small t c b fit small) (no_level t c z b fit (test_fails t c b fit e))))

-- k levels in, a pixel stands for as many items
same_items : (c low k z x : ℕ) → low + k ≡ z → c ^ low * (c ^ k * x) ≡ c ^ z * x
same_items c low k z x e = rw (← e, pow-add c low k) (sym (mul_assoc (c ^ low) (c ^ k) x))

-- WHAT IT LEAVES, said whole
module _ (t c : ℕ) (b : List ℕ) (fit : Fit t c (length b)) (small : Small b) (shut : shutter_of t b ≡ 0) where
  abbrev after : List ℕ
  after = zoom_in_of t c b

  zoomed : (k : ℕ) × Falls t c (zoom_of t b) k b after
  zoomed = zoom_in_falls t c (zoom_of t b) b fit small refl

  left : ZoomedIn t b after
  left = zoom_in_leaves t c (zoom_of t b) b fit (omega arith) (small (t + 2))

  same_worth : (k : ℕ) → Falls t c (zoom_of t b) k b after → (slot : ℕ) → slot < pixels_of t
      → unit_of t c after * pixel_of after slot ≡ unit_of t c b * pixel_of b slot
  same_worth k w slot l = rw (w.pixels slot l) (same_items c (zoom_of t after) k (zoom_of t b) (pixel_of b slot) w.zoom)

  none_left : (k : ℕ) → Falls t c (zoom_of t b) k b after → ((slot : ℕ) → slot < pixels_of t → pixel_of b slot ≡ 0) → k ≡ zoom_of t b
  none_left k w zeros =
      let m : largest_pixel t b < 1 = largest_lt (t + 1) 1 (pixel_of b) (λ i l. omega (arith, zeros i (omega arith))) in
      let none : largest_pixel t b ≡ 0 = omega arith in
      let deepest : zoom_of t b ≤ k = w.largest_k.no_more (zoom_of t b) (omega arith) (rw (none, mul-zero (c ^ zoom_of t b)) (omega arith)) in
      omega (arith, w.largest_k.at_most)

  falls_by : (k : ℕ) → Falls t c (zoom_of t b) k b after → FallsBy t c k b after
  falls_by k w = record {
    largest_k = w.largest_k;
    zoom = w.zoom;
    pixels = w.pixels;
    worth = same_worth k w;
    empty = none_left k w;
    shutter = left.shutter ∙ shut;
    pads = left.kept.pads;
  }

  pub in_falls_by : FallsBy t c (levels_in t c b) b after
  in_falls_by = rw (← only c (largest_pixel t b) (zoom_of t b) zoomed.0 zoomed.1.largest_k) (falls_by zoomed.0 zoomed.1)
