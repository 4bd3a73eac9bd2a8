-- The powers of c rise, so those that fit four bytes are the ones up to max_zoom: what each loop over them has found, and what it ends with.
use Prim.Native.Nat.{ℕ, suc, ◌+◌, ◌-◌, ◌*◌, ◌%◌, ◌^◌, ◌≤◌, ◌<◌}
use mathlib.Core.Path.{◌≡◌, refl, sym, ◌∙◌}
use native.Mathlib.Omega.{arith}
use native.Mathlib.Numerals.{add-one}
use native.Mathlib.Nat.{pow-zero, pow-suc, pow-le-pow_right, mul-le-mul_left, le_trans, one-mul, mod-eq_of_lt}
use borrow.Author.Tests.{le-leb, lt-leb}
use Rattle.laws.specs.Powers.{highest}
use Rattle.laws.proofs.PowerLaws.{highest_limit, highest_largest, highest_unique, power_fits}
use Rattle.cell.specs.Cell.{max_zoom}
use Rattle.cell.specs.Workers.{unit_or_zero}

-- MAX_ZOOM
pub max_zoom_limit : (c : ℕ) → max_zoom c ≤ 31
unfolding max_zoom
max_zoom_limit c = highest_limit c 31

module _ (c : ℕ) (base : 2 ≤ c) where
  pub zoom_fits : (z : ℕ) → z ≤ max_zoom c → c ^ z ≤ 2 ^ 32 - 1
  unfolding max_zoom
  zoom_fits z h = power_fits c base z h

  pub zoom_below : (z : ℕ) → c ^ z ≤ 2 ^ 32 - 1 → z ≤ max_zoom c
  unfolding max_zoom
  zoom_below z h = highest_largest c base z h

-- above 31 no base has a power that fits
pub over_limit : (c z : ℕ) → 31 < z → 0 ≡ unit_or_zero c z
over_limit c z h =
    let l : max_zoom c < z = omega (arith, max_zoom_limit c) in
    sym (simp (lt-leb _ _ l))

-- BASE 2: a power is a 1 moved up, and all up to 31 fit
module _ (c z : ℕ) (two : c ≡ 2) (fits : c ^ z ≤ 2 ^ 32 - 1) where
  shift_low : z ≤ 31
  shift_low = omega (arith, zoom_below c (omega arith) z fits, max_zoom_limit c)

  pub shift_short : z < 64
  shift_short = omega (arith, shift_low)

  pub shifted : 1 * 2 ^ z % 2 ^ 64 ≡ c ^ z
  shifted =
      let low : 2 ^ z ≤ 2 ^ 32 - 1 = rw two at fits in
      rw (two, one-mul (2 ^ z)) (mod-eq_of_lt (omega arith))

two_top : max_zoom 2 ≡ 31
unfolding max_zoom highest
two_top = refl

module _ (z : ℕ) (low : z ≤ 31) where
  pub two_fits : 2 ^ z ≤ 2 ^ 32 - 1
  two_fits = zoom_fits 2 (omega arith) z (omega (arith, two_top))

  pub two_unit : (c unit : ℕ) → c ≡ 2 → unit ≡ 2 ^ z → unit ≡ unit_or_zero c z
  two_unit c unit two e = e ∙ sym (rw (two, two_top) (simp (le-leb _ _ low)))

-- CLIMBING: the power of i is found, and it fits
pub record Climbing (c i power : ℕ) : Type 0 where
  pub found : power ≡ c ^ i
  pub fits : power ≤ 2 ^ 32 - 1
  pub low : i ≤ 31

pub climbing_begin : (c : ℕ) → Climbing c 0 1
climbing_begin c = record { found = sym (pow-zero c); fits = omega arith; low = omega arith }

module _ (c i power : ℕ) (w : Climbing c i power) (base : 2 ≤ c) where
  next_is : power * c ≡ c ^ suc i
  next_is = rw w.found (sym (pow-suc c i))

  pub next_short : c ≤ 256 → power * c < 2 ^ 64
  next_short h =
      let m : power * c ≤ power * 256 = mul-le-mul_left power h in
      omega (arith, w.fits)

  pub next_fits : (z : ℕ) → c ^ z ≤ 2 ^ 32 - 1 → i < z → power * c ≤ 2 ^ 32 - 1
  next_fits z h l =
      let p : 0 < c = omega arith in
      rw next_is (le_trans (pow-le-pow_right p l) h)

  pub climbing_on : power * c ≤ 2 ^ 32 - 1 → Climbing c (i + 1) (power * c)
  climbing_on h = record {
    found = rw (add-one i) next_is;
    fits = h;
    low = rw (add-one i) (le_trans (zoom_below c base (suc i) (rw next_is at h)) (max_zoom_limit c));
  }

  -- each that follows holds as the code leaves a loop
  climbing_stops : 2 ^ 32 - 1 < power * c → i ≡ max_zoom c
  unfolding max_zoom
  climbing_stops h = highest_unique c base i (rw w.found at w.fits) (rw next_is at h)

  pub climbing_over : (z : ℕ) → i < z → 2 ^ 32 - 1 < power * c → 0 ≡ unit_or_zero c z
  climbing_over z l h = sym (simp (lt-leb _ _ (rw climbing_stops at l)))

  pub climbing_there : (z : ℕ) → i ≤ z → z ≤ i → power ≡ c ^ z
  climbing_there z l h =
      let e : z ≡ i = omega arith in
      rw e w.found

  pub climbing_done : (z : ℕ) → i ≤ z → z ≤ i → power ≡ unit_or_zero c z
  climbing_done z l h =
      let e : power ≡ c ^ z = climbing_there z l h in
      e ∙ sym (simp (le-leb _ _ (zoom_below c base z (rw e at w.fits))))
