-- Minimum, maximum and sum go term by term, so what holds of every term up to k carries over by induction on k.
use Prim.Native.Nat.{ℕ, zero, suc, ◌+◌, ◌-◌, ◌*◌, ◌≤◌, ◌<◌, max}
use mathlib.Core.Path.{◌≡◌, refl, sym, ap, ◌∙◌}
use mathlib.Core.Logic.{⊎_elim}
use lib.Dec.{eqb}
use borrow.Author.Tests.{eq-eqb, ne_eqb}
use mathlib.Core.Bool.{cond}
use native.Mathlib.Omega.{arith}
use native.Mathlib.Decide.{dec_le}
use native.Mathlib.Nat.{add_assoc, add-zero, zero-add, le_refl, le_step, le-suc_iff, max-eq_left, max-eq_right, mul-le-mul_left}
use Rattle.laws.specs.Sums.{least, largest, total}
use Rattle.laws.specs.Within.{Within}

-- what holds up to suc k holds up to k, and at suc k
module _ {P : ℕ → Type 0} (k : ℕ) (h : (i : ℕ) → i ≤ suc k → P i) where
  earlier : (i : ℕ) → i ≤ k → P i
  earlier i l = h i (le_step l)

  last : P (suc k)
  last = h (suc k) (le_refl (suc k))

max_times : (c a b : ℕ) → max (c * a) (c * b) ≡ c * max a b
max_times c a b = by (dec_le a b)
  where
    by : Dec (a ≤ b) → max (c * a) (c * b) ≡ c * max a b
    by (yes h) = max-eq_right (mul-le-mul_left c h) ∙ ap (λ (m : ℕ). c * m) (sym (max-eq_right h))
    by (no h) =
        let l : b ≤ a = omega arith in
        max-eq_left (mul-le-mul_left c l) ∙ ap (λ (m : ℕ). c * m) (sym (max-eq_left l))

pub least_le : (k : ℕ) (f : ℕ → ℕ) (i : ℕ) → i ≤ k → least k f ≤ f i
unfolding least
least_le zero f i l =
    let e : i ≡ 0 = omega arith in
    rw e (le_refl (f 0))
least_le (suc k) f i l = ⊎_elim (λ q. omega (arith, least_le k f i q)) (λ e. rw e (omega arith)) (le-suc_iff.0 l)

pub le_largest : (k : ℕ) (f : ℕ → ℕ) (i : ℕ) → i ≤ k → f i ≤ largest k f
unfolding largest
le_largest zero f i l =
    let e : i ≡ 0 = omega arith in
    rw e (le_refl (f 0))
le_largest (suc k) f i l = ⊎_elim (λ q. omega (arith, le_largest k f i q)) (λ e. rw e (omega arith)) (le-suc_iff.0 l)

pub largest_lt : (k m : ℕ) (f : ℕ → ℕ) → ((i : ℕ) → i ≤ k → f i < m) → largest k f < m
unfolding largest
largest_lt zero m f h = h 0 (le_refl 0)
largest_lt (suc k) m f h = omega (arith, largest_lt k m f (earlier k h), last k h)

-- terms that are each c times the others'
pub largest_times : (k c : ℕ) (f g : ℕ → ℕ) → ((i : ℕ) → i ≤ k → g i ≡ c * f i) → largest k g ≡ c * largest k f
unfolding largest
largest_times zero c f g h = h 0 (le_refl 0)
largest_times (suc k) c f g h = rw (largest_times k c f g (earlier k h), last k h) (max_times c (largest k f) (f (suc k)))

pub total_le : (k m : ℕ) (f : ℕ → ℕ) → ((i : ℕ) → i ≤ k → f i ≤ m) → total k f ≤ (k + 1) * m
unfolding total
total_le zero m f h = omega (arith, h 0 (le_refl 0))
total_le (suc k) m f h = omega (arith, total_le k m f (earlier k h), last k h)

pub total_ge : (k m : ℕ) (f : ℕ → ℕ) → ((i : ℕ) → i ≤ k → m ≤ f i) → (k + 1) * m ≤ total k f
unfolding total
total_ge zero m f h = omega (arith, h 0 (le_refl 0))
total_ge (suc k) m f h = omega (arith, total_ge k m f (earlier k h), last k h)

pub least_within : (k e : ℕ) (f g : ℕ → ℕ) → ((i : ℕ) → i ≤ k → Within e (f i) (g i)) → Within e (least k f) (least k g)
unfolding least
least_within zero e f g h = h 0 (le_refl 0)
least_within (suc k) e f g h =
    let a : Within e (least k f) (least k g) = least_within k e f g (earlier k h) in
    let b : Within e (f (suc k)) (g (suc k)) = last k h in
    record { low = omega arith; high = omega arith }

pub total_same : (k : ℕ) (f g : ℕ → ℕ) → ((i : ℕ) → i ≤ k → f i ≡ g i) → total k f ≡ total k g
unfolding total
total_same zero f g h = h 0 (le_refl 0)
total_same (suc k) f g h = rw (total_same k f g (earlier k h), last k h) refl

pub total_none : (k : ℕ) (f : ℕ → ℕ) → ((i : ℕ) → i ≤ k → f i ≡ 0) → total k f ≡ 0
unfolding total
total_none zero f h = h 0 (le_refl 0)
total_none (suc k) f h = omega (arith, total_none k f (earlier k h), last k h)

-- the first term, and the others
pub total_first : (k : ℕ) (f : ℕ → ℕ) → total (suc k) f ≡ f 0 + total k (λ i. f (suc i))
unfolding total
total_first zero f = refl
total_first (suc k) f = rw (total_first k f) (add_assoc (f 0) (total k (λ i. f (suc i))) (f (suc (suc k))))

pub total_add : (k : ℕ) (f g : ℕ → ℕ) → total k (λ i. f i + g i) ≡ total k f + total k g
unfolding total
total_add zero f g = refl
total_add (suc k) f g = omega (arith, total_add k f g)

-- one term, of which the others are 0
total_miss : (k at : ℕ) (f : ℕ → ℕ) → k < at → total k (λ i. cond (eqb at i) (f i) 0) ≡ 0
unfolding total
total_miss zero at f h = rw (ne_eqb at 0 (λ e. omega arith)) refl
total_miss (suc k) at f h = rw (total_miss k at f (omega arith), ne_eqb at (suc k) (λ e. omega arith)) refl

pub total_pick : (k at : ℕ) (f : ℕ → ℕ) → at ≤ k → total k (λ i. cond (eqb at i) (f i) 0) ≡ f at
unfolding total
total_pick zero at f h =
    let e : at ≡ 0 = omega arith in
    rw e refl
total_pick (suc k) at f h =
    ⊎_elim
    (λ l. rw (total_pick k at f l, ne_eqb at (suc k) (λ e. omega arith)) (add-zero (f at)))
    (λ e. rw (total_miss k at f (omega arith), eq-eqb at (suc k) e, e) (zero-add (f (suc k))))
    (le-suc_iff.0 h)

-- the terms up to a, and so many behind them; and row by row
total_split : (a b : ℕ) (f : ℕ → ℕ) → total (suc (a + b)) f ≡ total a f + total b (λ i. f (suc (a + i)))
unfolding total
total_split a zero f = rw (add-zero a) refl
total_split a (suc b) f =
    let e : a + suc b ≡ suc (a + b) = omega arith in
    rw e (rw (total_split a b f) (add_assoc (total a f) (total b (λ i. f (suc (a + i)))) (f (suc (suc (a + b))))))

total_rows : (r c : ℕ) (f : ℕ → ℕ) → total (r * suc c + c) f ≡ total r (λ row. total c (λ col. f (row * suc c + col)))
unfolding total
total_rows zero c f =
    let e : 0 * suc c + c ≡ c = omega arith in
    rw e (total_same c _ _ (λ i l. let q : 0 * suc c + i ≡ i = omega arith in rw q refl))
total_rows (suc r) c f =
    let e : suc r * suc c + c ≡ suc (r * suc c + c + c) = omega arith in
    rw e
    (total_split (r * suc c + c) c f
    ∙ rw (total_rows r c f) (ap (λ (n : ℕ). total r (λ row. total c (λ col. f (row * suc c + col))) + n)
    (total_same c _ _ (λ i l. let q : suc (r * suc c + c + i) ≡ suc r * suc c + i = omega arith in rw q refl))))

pub total_grid : (rows cols : ℕ) (f : ℕ → ℕ) → 0 < rows → 0 < cols
    → total (rows * cols - 1) f ≡ total (rows - 1) (λ row. total (cols - 1) (λ col. f (row * cols + col)))
total_grid zero cols f h q = absurd (omega arith)
total_grid (suc r) zero f h q = absurd (omega arith)
total_grid (suc r) (suc c) f h q =
    let a : suc r - 1 ≡ r = omega arith in
    let b : suc c - 1 ≡ c = omega arith in
    let count : suc r * suc c - 1 ≡ r * suc c + c = omega arith in
    rw (a, b, count) (total_rows r c f)

-- the first within e, each other within 2 e
pub total_within : (k e : ℕ) (f g : ℕ → ℕ) → Within e (f 0) (g 0) → ((i : ℕ) → 0 < i → i ≤ k → Within (2 * e) (f i) (g i))
    → Within ((2 * k + 1) * e) (total k f) (total k g)
unfolding total
total_within zero e f g h m = record { low = omega (arith, h.low); high = omega (arith, h.high) }
total_within (suc k) e f g h m =
    let a : Within ((2 * k + 1) * e) (total k f) (total k g) = total_within k e f g h (λ i s l. m i s (le_step l)) in
    let b : Within (2 * e) (f (suc k)) (g (suc k)) = m (suc k) (omega arith) (le_refl (suc k)) in
    record { low = omega arith; high = omega arith }
