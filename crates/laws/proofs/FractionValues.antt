-- f64s by the fractions that they equal: `HasValue x false a c`, of `lib.Ieee.Exact`, says that x is a finite number with no minus sign, of the size a / c.
-- IEEE 754 defines each operation as the exact fraction rounded once, so at such values only fractions are compared and multiplied out here.
use mathlib.Core.Path.{◌≡◌, refl, sym, ap, ◌∙◌, subst}
use mathlib.Core.Bool.{Bool, true, false, not, ◌&&◌, ◌||◌, cond, true≢false}
use Prim.Native.Nat.{ℕ, zero, suc, ◌+◌, ◌-◌, ◌*◌, ◌^◌, ◌≤◌, ◌<◌}
use native.Mathlib.Nat.{le_of_lt, le_of_eq, le_antisymm, not-le_of_lt, lt_irrefl}
use native.Mathlib.Nat.{mul_comm, mul_assoc, mul_left_comm, add-mul, mul-sub, mul-pos, mul-mul-mul_comm}
use lib.IntN.{ℤ}
use lib.Dec.{T, leb, ltb, eqb, ltb→lt, leb→le, le→leb, eqb→eq, eqb_refl, nltb→le}
use lib.Ieee.{Float, nan, inf, fin, Format, binary64, prec, emax, low, up, down, odd, units, round, add, sub, sum, mul, div, le}
use lib.Ieee.Fits.{down_pos, round_is}
use lib.Ieee.Exact.{HasValue}
use lib.Ieee.Order.{transfer}
use lib.Ieee.Scale.{round_same, grid, finite, round_val, round_under}
use lib.Ieee.Positive.{first_pos}

-- what holds of every `fin false m e` of the size a / c holds of x
pub of_value : (P : Float → Type 0) (x : Float) (a c : ℕ) → HasValue x false a c → ((m : ℕ) (e : ℤ) → m * up e * c ≡ a * down e → P (fin false m e)) → P x
of_value P nan a c h k = absurd h
of_value P (inf s) a c h k = absurd h
of_value P (fin true m e) a c h k = absurd (true≢false h.0)
of_value P (fin false m e) a c h k = k m e h.1

-- m · 2 ^ e in units of the denominator that it has together with a number of exponent g
abbrev over : ℕ → ℤ → ℤ → ℕ
over m e g = m * up e * down g

abbrev rounded : ℕ → ℕ → Float
rounded a c = round binary64 false a c

-- ---- the operations, and the comparisons, at two numbers with no minus sign
module _ (m : ℕ) (e : ℤ) (n : ℕ) (g : ℤ) where
  add_fin : add binary64 (fin false m e) (fin false n g) ≡ rounded (over m e g + over n g e) (down e * down g)
  unfolding add sum
  add_fin = refl

  mul_fin : mul binary64 (fin false m e) (fin false n g) ≡ rounded (m * up e * (n * up g)) (down e * down g)
  unfolding mul
  mul_fin = refl

  div_fin : 0 < n → div binary64 (fin false m e) (fin false n g) ≡ rounded (over m e g) (over n g e)
  unfolding div
  div_fin h = go (eqb n 0) (eqb→eq n 0)
    where
      go : (b : Bool) → (T b → n ≡ 0)
          → cond b (cond (eqb m 0) nan (inf false)) (rounded (over m e g) (over n g e)) ≡ rounded (over m e g) (over n g e)
      go true k = absurd (lt_irrefl 0 (subst (λ (z : ℕ). 0 < z) (k tt) h))
      go false k = refl

  sub_fin : over n g e ≤ over m e g
      → sub binary64 (fin false m e) (fin false n g) ≡ rounded (over m e g - over n g e) (down e * down g)
  unfolding sub
  sub_fin h = go (ltb (over m e g) (over n g e)) (ltb→lt (over m e g) (over n g e))
    where
      go : (b : Bool) → (T b → over m e g < over n g e)
          → cond b (round binary64 true (over n g e - over m e g) (down e * down g)) (rounded (over m e g - over n g e) (down e * down g))
          ≡ rounded (over m e g - over n g e) (down e * down g)
      go true k = absurd (not-le_of_lt (k tt) h)
      go false k = refl

  le_fin : le (fin false m e) (fin false n g) ≡ (ltb (over m e g) (over n g e) || (eqb (over m e g) (over n g e) && true))
  unfolding le
  le_fin = refl

-- two tests that pass at the same time are the same
same_test : (p q : Bool) → (T p → T q) → (T q → T p) → p ≡ q
same_test true true i j = refl
same_test true false i j = absurd (i tt)
same_test false true i j = absurd (j tt)
same_test false false i j = refl

below_or_same : (a b : ℕ) → (ltb a b || (eqb a b && true)) ≡ leb a b
below_or_same a b =
    same_test _ _
    (split (ltb a b) (eqb a b) (λ t. le→leb a b (le_of_lt (ltb→lt a b t))) (λ t. le→leb a b (le_of_eq (eqb→eq a b t))))
    (λ t. join (ltb a b) (eqb a b) (λ n. subst (λ (z : ℕ). T (eqb a z)) (le_antisymm (leb→le a b t) (nltb→le a b n)) (eqb_refl a)))
  where
    split : (p q : Bool) → (T p → T (leb a b)) → (T q → T (leb a b)) → T (p || (q && true)) → T (leb a b)
    split true q i j t = i tt
    split false true i j t = j tt
    split false false i j t = absurd t

    join : (p q : Bool) → (T (not p) → T q) → T (p || (q && true))
    join true q i = tt
    join false true i = tt
    join false false i = i tt

-- ---- fractions multiplied out: x / p is a / c, so x * q is to p * q as a is to c
cross : (x p a c q d : ℕ) → x * c ≡ a * p → x * q * (c * d) ≡ a * d * (p * q)
cross x p a c q d h = simp (mul_assoc, mul_comm, mul_left_comm) (simp (mul_assoc, mul_comm) at (ap (λ (z : ℕ). z * (q * d)) h))

cross' : (y q b d p c : ℕ) → y * d ≡ b * q → y * p * (c * d) ≡ b * c * (p * q)
cross' y q b d p c h = simp (mul_assoc, mul_comm, mul_left_comm) (simp (mul_assoc, mul_comm) at (ap (λ (z : ℕ). z * (p * c)) h))

sub_mul : (a b k : ℕ) → (a - b) * k ≡ a * k - b * k
sub_mul a b k = mul_comm (a - b) k ∙ mul-sub k a b ∙ ap (λ (z : ℕ). z - k * b) (mul_comm k a) ∙ ap (λ (z : ℕ). a * k - z) (mul_comm k b)

quotient : (a c b d x p y q : ℕ) → x * c ≡ a * p → y * d ≡ b * q → x * q * (c * b) ≡ a * d * (y * p)
quotient a c b d x p y q s t =
    mul-mul-mul_comm x q c b ∙ ap (λ (z : ℕ). z * (q * b)) s ∙ ap (λ (z : ℕ). a * p * z) (mul_comm q b ∙ sym t) ∙ simp (mul_assoc, mul_comm, mul_left_comm)

-- ---- the operations, and the comparisons, at a / c and b / d
module _ (x y : Float) (a c b d : ℕ) (C : 0 < c) (D : 0 < d) (h : HasValue x false a c) (k : HasValue y false b d) where
  of_values : (P : Float → Float → Type 0)
      → ((m : ℕ) (e : ℤ) (n : ℕ) (g : ℤ) → m * up e * c ≡ a * down e → n * up g * d ≡ b * down g → P (fin false m e) (fin false n g))
      → P x y
  of_values P f = of_value (λ (z : Float). P z y) x a c h (λ m e p. of_value (P (fin false m e)) y b d k (λ n g q. f m e n g p q))

  pub value_add : add binary64 x y ≡ rounded (a * d + b * c) (c * d)
  value_add =
      of_values (λ (x y : Float). add binary64 x y ≡ rounded (a * d + b * c) (c * d)) (λ m e n g p q.
      add_fin m e n g
      ∙ round_same binary64 false (over m e g + over n g e) (down e * down g) (a * d + b * c) (c * d) (mul-pos (down_pos e) (down_pos g)) (mul-pos C D)
      (add-mul (over m e g) (over n g e) (c * d)
      ∙ ap (λ (z : ℕ). z + over n g e * (c * d)) (cross (m * up e) (down e) a c (down g) d p)
      ∙ ap (λ (z : ℕ). a * d * (down e * down g) + z) (cross' (n * up g) (down g) b d (down e) c q)
      ∙ sym (add-mul (a * d) (b * c) (down e * down g))))

  -- where that is not below zero
  pub value_sub : b * c ≤ a * d → sub binary64 x y ≡ rounded (a * d - b * c) (c * d)
  value_sub l =
      of_values (λ (x y : Float). sub binary64 x y ≡ rounded (a * d - b * c) (c * d)) (λ m e n g p q.
      sub_fin m e n g (transfer (n * up g) (m * up e) (down g) (down e) b a d c D C q p l)
      ∙ round_same binary64 false (over m e g - over n g e) (down e * down g) (a * d - b * c) (c * d) (mul-pos (down_pos e) (down_pos g)) (mul-pos C D)
      (sub_mul (over m e g) (over n g e) (c * d)
      ∙ ap (λ (z : ℕ). z - over n g e * (c * d)) (cross (m * up e) (down e) a c (down g) d p)
      ∙ ap (λ (z : ℕ). a * d * (down e * down g) - z) (cross' (n * up g) (down g) b d (down e) c q)
      ∙ sym (sub_mul (a * d) (b * c) (down e * down g))))

  pub value_mul : mul binary64 x y ≡ rounded (a * b) (c * d)
  value_mul =
      of_values (λ (x y : Float). mul binary64 x y ≡ rounded (a * b) (c * d)) (λ m e n g p q.
      mul_fin m e n g
      ∙ round_same binary64 false (m * up e * (n * up g)) (down e * down g) (a * b) (c * d) (mul-pos (down_pos e) (down_pos g)) (mul-pos C D)
      (mul-mul-mul_comm (m * up e) (n * up g) c d ∙ ap (λ (z : ℕ). z * (n * up g * d)) p ∙ ap (λ (z : ℕ). a * down e * z) q
      ∙ mul-mul-mul_comm a (down e) b (down g)))

  pub value_div : 0 < b → div binary64 x y ≡ rounded (a * d) (c * b)
  value_div B =
      of_values (λ (x y : Float). div binary64 x y ≡ rounded (a * d) (c * b)) (λ m e n g p q.
      let U : 0 < n * up g = first_pos (n * up g) d (subst (λ (z : ℕ). 0 < z) (sym q) (mul-pos B (down_pos g))) in
      div_fin m e n g (first_pos n (up g) U)
      ∙ round_same binary64 false (over m e g) (over n g e) (a * d) (c * b) (mul-pos U (down_pos e)) (mul-pos C B)
      (quotient a c b d (m * up e) (down e) (n * up g) (down g) p q))

  pub value_le : le x y ≡ leb (a * d) (b * c)
  value_le =
      of_values (λ (x y : Float). le x y ≡ leb (a * d) (b * c)) (λ m e n g p q.
      le_fin m e n g
      ∙ below_or_same (over m e g) (over n g e)
      ∙ same_test _ _
      (λ t. le→leb (a * d) (b * c)
      (transfer a b c d (m * up e) (n * up g) (down e) (down g) (down_pos e) (down_pos g) (sym p) (sym q) (leb→le (over m e g) (over n g e) t)))
      (λ t. le→leb (over m e g) (over n g e) (transfer (m * up e) (n * up g) (down e) (down g) a b c d C D p q (leb→le (a * d) (b * c) t))))

-- ---- a rounded fraction
-- not a NaN, and with no minus sign
abbrev plain : Float → Bool
plain nan = false
plain (inf s) = not s
plain (fin s m e) = not s

odd_plain : (d q k l : ℕ) → T (plain (odd d false q k l))
unfolding odd
odd_plain d zero k l = tt
odd_plain d (suc q) k l = tt

units_plain : (f : Format) (q k : ℕ) → T (plain (units f false q k))
unfolding units
units_plain f q k = go (ltb (q * 2 ^ k) (2 ^ (low f + suc (emax f))))
  where
    go : (b : Bool) → T (plain (cond b (odd (suc (prec f)) false q k (low f)) (inf false)))
    go true = odd_plain (suc (prec f)) q k (low f)
    go false = tt

round_plain : (f : Format) (a c : ℕ) → T (plain (round f false a c))
round_plain f a c = subst (λ (x : Float). T (plain x)) (sym (round_is f false a c)) (units_plain f _ _)

plain_number : (z : Float) (n : ℕ) (g : ℤ) → T (plain z) → T (le z (fin false n g)) → T (finite z)
unfolding le
plain_number nan n g p t = absurd p
plain_number (inf true) n g p t = absurd p
plain_number (inf false) n g p t = absurd t
plain_number (fin s m e) n g p t = tt

-- below a number, it is a number: so many of the format's smallest values
pub round_number : (a c b d : ℕ) (y : Float) → HasValue y false b d → T (le (rounded a c) y)
    → HasValue (rounded a c) false (grid binary64 a c) (2 ^ low binary64)
round_number a c b d y k l =
    round_val binary64 a c (round_under binary64 a c
    (of_value (λ (y : Float). T (le (rounded a c) y) → T (finite (rounded a c))) y b d k
    (λ n g q t. plain_number (rounded a c) n g (round_plain binary64 a c) t) l))
