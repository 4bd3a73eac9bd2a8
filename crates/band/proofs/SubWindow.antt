-- One sub-window of one cell against the y items that it received: a rounded division, whatever the coin says, adds less than the unit it leads to.
-- Strict inequalities stand in for "unit − 1", so that no difference is ever cut off at 0.
use Prim.Native.Nat.{ℕ, zero, suc, ◌+◌, ◌*◌, ◌^◌, ◌≤◌, ◌<◌}
use mathlib.Core.Path.{◌≡◌, refl, ◌∙◌}
use native.Mathlib.Nat.{mul-le-mul_left, mul-add, mul-one, mul_assoc, mul_comm, mul_left_comm, mul-zero, one-mul, add-zero}
use native.Mathlib.Nat.{pow-suc, pow-zero, pow-succ', one-le-pow, pow-le-pow_right}
use native.Mathlib.Omega.{arith}

-- the present sub-window, at the unit c ^ Z: shutter and pixel are within c ^ Z − 1 of y
pub record Present (c Z s v y : ℕ) : Type 0 where
  pub low : s + c ^ Z * v < y + c ^ Z
  pub high : y < s + c ^ Z * v + c ^ Z

-- a past one: at a level L = Z + extra ≤ P, c ^ L divides c ^ Z × v, which is within (c ^ L − 1) + (c ^ P − 1) of y
pub record Past (c P Z v y : ℕ) : Type 0 where
  pub extra : ℕ
  pub parts : ℕ
  pub level : Z + extra ≤ P
  pub whole : v ≡ c ^ extra * parts
  pub low : c ^ Z * v + 1 < y + (c ^ (Z + extra) + c ^ P)
  pub high : y + 1 < c ^ Z * v + (c ^ (Z + extra) + c ^ P)

-- what a rounded division of v by c may give
pub record Rounded (c v q : ℕ) : Type 0 where
  pub low : q * c < v + c
  pub high : v < q * c + c
  pub exact : (m : ℕ) → v ≡ c * m → q ≡ m

-- the spread that a rounded division adds, in units of u
spread_low : (u c v q : ℕ) → q * c < v + c → u * c * q + u ≤ u * v + u * c
spread_low u c v q h =
    let m : u * (q * c + 1) ≤ u * (v + c) = mul-le-mul_left u (omega arith) in
    let e : u * c * q ≡ u * (q * c) = simp (mul_assoc, mul_comm) in
    omega (arith, mul-add u (q * c) 1, mul-add u v c, mul-one u)

spread_high : (u c v q : ℕ) → v < q * c + c → u * v + u ≤ u * c * q + u * c
spread_high u c v q h =
    let m : u * (v + 1) ≤ u * (q * c + c) = mul-le-mul_left u (omega arith) in
    let e : u * c * q ≡ u * (q * c) = simp (mul_assoc, mul_comm) in
    omega (arith, mul-add u (q * c) c, mul-add u v 1, mul-one u)

-- ZOOM-OUT of the present
pub present_out : {c Z v q y : ℕ} → Present c Z 0 v y → Rounded c v q → Present c (suc Z) 0 q y
present_out {c} {Z} {v} {q} {y} h r =
    let e = pow-suc c Z in
    record {
      low = rw e (omega (arith, spread_low (c ^ Z) c v q r.low));
      high = rw e (omega (arith, spread_high (c ^ Z) c v q r.high));
    }

-- a past sub-window at its cell's own level
module _ {c P Z v y : ℕ} (level : Z ≤ P) where
  pub past_here : c ^ Z * v + 1 < y + (c ^ Z + c ^ P) → y + 1 < c ^ Z * v + (c ^ Z + c ^ P) → Past c P Z v y
  past_here low high = record {
    extra = 0;
    parts = v;
    level = rw (add-zero Z) level;
    whole = rw (pow-zero c, one-mul v) refl;
    low = rw (add-zero Z) low;
    high = rw (add-zero Z) high;
  }

-- ZOOM-OUT of a past one: at its cell's level the coin may fall, above it the division is exact and nothing is drawn
module _ {c P Z v q y : ℕ} (room : suc Z ≤ P) (r : Rounded c v q) where
  out_rounded : c ^ Z * v + 1 < y + (c ^ Z + c ^ P) → y + 1 < c ^ Z * v + (c ^ Z + c ^ P) → Past c P (suc Z) q y
  out_rounded low high =
      let e = pow-suc c Z in
      past_here room (rw e (omega (arith, spread_low (c ^ Z) c v q r.low))) (rw e (omega (arith, spread_high (c ^ Z) c v q r.high)))

  out_exact : (e m : ℕ) → Z + suc e ≤ P → v ≡ c ^ suc e * m
      → c ^ Z * v + 1 < y + (c ^ (Z + suc e) + c ^ P) → y + 1 < c ^ Z * v + (c ^ (Z + suc e) + c ^ P) → Past c P (suc Z) q y
  out_exact e m level whole low high =
      let w : v ≡ c * (c ^ e * m) = whole ∙ rw (pow-succ' c e) (mul_assoc c (c ^ e) m) in
      let eq : q ≡ c ^ e * m = r.exact (c ^ e * m) w in
      let same : c ^ suc Z * q ≡ c ^ Z * v = rw (pow-suc c Z, w, eq) (mul_assoc (c ^ Z) c (c ^ e * m)) in
      let el : suc Z + e ≡ Z + suc e = omega arith in
      record { extra = e; parts = m; level = omega arith; whole = eq; low = rw (same, el) low; high = rw (same, el) high }

  pub past_out : Past c P Z v y → Past c P (suc Z) q y
  past_out h = go h.extra h.level h.whole h.low h.high
    where
      go : (e : ℕ) → Z + e ≤ P → v ≡ c ^ e * h.parts
          → c ^ Z * v + 1 < y + (c ^ (Z + e) + c ^ P) → y + 1 < c ^ Z * v + (c ^ (Z + e) + c ^ P) → Past c P (suc Z) q y
      go zero level whole low high = out_rounded (rw (add-zero Z) at low) (rw (add-zero Z) at high)
      go (suc e) level whole low high = out_exact e h.parts level whole low high

-- ZOOM-IN of a past one: the value and the level stay
pub past_in : {c P Z v y : ℕ} → Past c P (suc Z) v y → Past c P Z (v * c) y
past_in {c} {P} {Z} {v} h =
    let same : c ^ Z * (v * c) ≡ c ^ suc Z * v = rw (pow-suc c Z) (simp (mul_assoc, mul_comm)) in
    let el : Z + suc h.extra ≡ suc Z + h.extra = omega arith in
    record {
      extra = suc h.extra;
      parts = h.parts;
      level = omega (arith, h.level);
      whole = rw (h.whole, pow-suc c h.extra) (simp (mul_assoc, mul_comm, mul_left_comm));
      low = rw (same, el) h.low;
      high = rw (same, el) h.high;
    }

-- CLOSING the shutter makes the present past, whether its pixel stays or gains 1
module _ {c P Z s v y : ℕ} (hc : 2 ≤ c) (level : Z ≤ P) (shut : s < c ^ Z) (h : Present c Z s v y) where
  up : c ^ Z ≤ c ^ P
  up = pow-le-pow_right (omega arith) level

  pub close_down : Past c P Z v y
  close_down = past_here level (omega (arith, up)) (omega (arith, up))

  pub close_up : 0 < s → Past c P Z (v + 1) y
  close_up some =
      let e : c ^ Z * (v + 1) ≡ c ^ Z * v + c ^ Z = mul-add (c ^ Z) v 1 ∙ rw (mul-one (c ^ Z)) refl in
      past_here level (omega (arith, up)) (omega (arith, up))

-- an empty sub-window that received nothing
pub past_none : {c P Z : ℕ} → 2 ≤ c → Z ≤ P → Past c P Z 0 0
past_none {c} {P} {Z} hc level =
    let one-z : 1 ≤ c ^ Z = one-le-pow Z c (omega arith) in
    let one-p : 1 ≤ c ^ P = one-le-pow P c (omega arith) in
    past_here level (rw (mul-zero (c ^ Z)) (omega arith)) (rw (mul-zero (c ^ Z)) (omega arith))
