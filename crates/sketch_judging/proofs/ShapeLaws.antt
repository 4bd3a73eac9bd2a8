-- The number of columns as a power of two, the shape of a grid, and the columns of a key, in the form in which the library's calls tell them. Assumes nothing.
use Prim.Native.Nat.{ℕ, zero, suc, ◌+◌, ◌*◌, ◌/◌, ◌%◌, ◌^◌, ◌≤◌, ◌<◌}
use mathlib.Core.Path.{◌≡◌, refl, sym, ap, ◌∙◌}
use mathlib.Core.Bool.{Bool, true, false, not, ◌&&◌}
use mathlib.Core.List.{List, [], ◌∷◌}
use mathlib.Core.Logic.{◌⊎◌, inl, inr}
use native.Mathlib.Omega.{arith}
use native.Mathlib.Nat.{pow-suc, pow-le-pow_right}
use lib.Count.{ones_step}
use lib.Dec.{ltb, eqb, lit<}
use borrow.Author.Tests.{eq-eqb, ne_eqb, eqb-true, eqb_apart, both_ways}
use Rattle.std.proofs.lemmas.Nat.{zero_from_ones, ones_le_self, pow_pos, pow_below}
use Rattle.std.specs.Int.{is_power_of_two}
use Rattle.std.specs.Prelude.{count_ones}
use Rattle.std.specs.List.{list_all}
use Rattle.refusal.specs.declared.Verdict.{Verdict}
use Rattle.refusal.specs.declared.Verdict.TheVariants.{Accepted}
use Rattle.refusal.specs.Refusals.{is_accepted}
use Rattle.refusal.proofs.VerdictLaws.{let_pass}
use Rattle.refusal.proofs.GateLaws.{gate_passed}
use Rattle.rounding.specs.Refusals.{refuse_state}
use Rattle.cell.specs.Cell.{depth_of}
use Rattle.sketch.specs.declared.MicroCm.{MicroCm}
use Rattle.sketch.specs.Refusals.{bits_up_to, grid_fits, all_below, numbers_verdict}
use Rattle.sketch.proofs.AddressLaws.{product_le}
use Rattle.sketch.proofs.SettingsLaws.{GoodSettings, good_settings}
use Rattle.sketch.proofs.SketchGates.{settings_of, settings_gate}
use Rattle.sketch.proofs.SettingsCases.{Missed, missed_bits, no_rows, no_bits, many_rows}

-- POWERS OF TWO: a number with one bit set is one, and one has one bit set
one_bit : (d n : ℕ) → n ≤ d → count_ones n ≡ 1 → (k : ℕ) × (n ≡ 2 ^ k)
one_bit zero n h e = absurd (omega (arith, ones_le_self n))
one_bit (suc d) n h e = by (n % 2) refl (ones_step n) (one_bit d (n / 2) (omega arith))
  where
    by : (r : ℕ) → r ≡ n % 2 → count_ones n ≡ n % 2 + count_ones (n / 2) → (count_ones (n / 2) ≡ 1 → (k : ℕ) × (n / 2 ≡ 2 ^ k)) → (k : ℕ) × (n ≡ 2 ^ k)
    by zero q s half = let p = half (omega arith) in (suc p.0, omega (arith, p.1, pow-suc 2 p.0))
    by (suc r) q s half = let none = zero_from_ones (n / 2) (omega arith) in (0, omega arith)

bit_one : (k : ℕ) → count_ones (2 ^ k) ≡ 1
bit_one zero = ones_step 1 ∙ omega (arith, ones_le_self 0)
bit_one (suc k) =
    let half : 2 ^ suc k / 2 ≡ 2 ^ k = omega (arith, pow-suc 2 k) in
    let even : 2 ^ suc k % 2 ≡ 0 = omega (arith, pow-suc 2 k) in
    ones_step (2 ^ suc k) ∙ rw (half, even) (omega (arith, bit_one k))

-- the greater power has the greater exponent, and between a power and its double no other lies
pow_few : (i j : ℕ) → 2 ^ i ≤ 2 ^ j → i ≤ j
pow_few zero j h = omega arith
pow_few (suc i) zero h = absurd (omega (arith, pow-suc 2 i, pow_pos i))
pow_few (suc i) (suc j) h = let l = pow_few i j (omega (arith, pow-suc 2 i, pow-suc 2 j)) in omega arith

pow_same : (i j : ℕ) → 2 ^ i ≤ 2 ^ j → 2 ^ j < 2 * 2 ^ i → i ≡ j
pow_same zero zero l h = refl
pow_same zero (suc j) l h = absurd (omega (arith, pow-suc 2 j, pow_pos j))
pow_same (suc i) zero l h = absurd (omega (arith, pow-suc 2 i, pow_pos i))
pow_same (suc i) (suc j) l h = ap suc (pow_same i j (omega (arith, pow-suc 2 i, pow-suc 2 j)) (omega (arith, pow-suc 2 i, pow-suc 2 j)))

-- LOG2 of cols
power_bits : (k b : ℕ) → 1 ≤ b → b ≤ k → b ≡ bits_up_to k (2 ^ b)
unfolding bits_up_to
power_bits zero b l h = omega arith
power_bits (suc k) b l h = by (eqb b (suc k)) refl (power_bits k b l)
  where
    by : (x : Bool) → x ≡ eqb b (suc k) → (b ≤ k → b ≡ bits_up_to k (2 ^ b)) → b ≡ bits_up_to (suc k) (2 ^ b)
    by true q below =
        let e : b ≡ suc k = eqb-true b (suc k) (sym q) in
        e ∙ rw (eq-eqb (2 ^ b) (2 ^ suc k) (ap (λ (x : ℕ). 2 ^ x) e)) refl
    by false q below =
        let lower : b ≤ k = omega (arith, eqb_apart b (suc k) (sym q)) in
        let other : 2 ^ b ≡ 2 ^ suc k → ⊥ = λ e. omega (arith, pow_below b (suc k) (omega arith)) in
        below lower ∙ rw (ne_eqb (2 ^ b) (2 ^ suc k) other) refl

module _ (cols : ℕ) where
  all_missed : (k : ℕ) → ((i : ℕ) → i ≤ k → cols ≡ 2 ^ i → ⊥) → Missed k cols
  all_missed zero h = tt
  all_missed (suc k) h = (all_missed k (λ i l. h i (omega arith)), h (suc k) (omega arith))

  module _ (one : Bool) (eo : one ≡ is_power_of_two cols) where
    pub power_told : (bits : ℕ) → one ≡ true → cols ≤ 65536 → 2 ^ bits ≤ cols → cols < 2 * 2 ^ bits → (bits ≡ bits_up_to 16 cols) × (bits ≤ 16)
    unfolding bits_up_to
    power_told bits t h low high =
        let p = one_bit cols cols (omega arith) (eqb-true (count_ones cols) 1 (sym eo ∙ t)) in
        let same : bits ≡ p.0 = pow_same bits p.0 (rw p.1 at low) (rw p.1 at high) in
        let few : bits ≤ 16 = pow_few bits 16 (omega arith) in
        (by bits few ∙ ap (bits_up_to 16) (ap (λ (x : ℕ). 2 ^ x) same ∙ sym p.1), few)
      where
        by : (b : ℕ) → b ≤ 16 → b ≡ bits_up_to 16 (2 ^ b)
        by zero l = refl
        by (suc b) l = power_bits 16 (suc b) (omega arith) l

    pub no_power : one ≡ false → 0 ≡ bits_up_to 16 cols
    no_power f = missed_bits 16 cols (all_missed 16 (λ i l e. both_ways one f (eo ∙ eq-eqb (count_ones cols) 1 (ap count_ones e ∙ bit_one i))))

    pub great_power : 65536 < cols → 0 ≡ bits_up_to 16 cols
    great_power h = missed_bits 16 cols (all_missed 16 (λ i l e. omega (arith, pow-le-pow_right {n = 2} (lit< tt) l)))

-- THE GRID'S SHAPE: what is left where one of the tests fails
pub unfit_told : (rows cols bits : ℕ) → bits ≡ bits_up_to 16 cols
    → ((1 ≤ rows) × (1 ≤ bits) × (128 < rows)) ⊎ (((1 ≤ rows) × (bits < 1)) ⊎ (rows < 1)) → (t : Bool) → t ≡ false → t ≡ grid_fits rows cols
unfit_told rows cols bits is (inl w) t e = e ∙ many_rows rows cols bits is w.0 w.1 w.2
unfit_told rows cols bits is (inr (inl w)) t e = e ∙ no_bits rows cols bits is w.0 w.1
unfit_told rows cols bits is (inr (inr w)) t e = e ∙ no_rows rows cols bits is w

-- THE GRID'S BYTES: where a sketch's own numbers are accepted their product fits
module _ (k : MicroCm) (v : Verdict) (ev : v ≡ numbers_verdict k) (ok : Bool) (asked : ok ≡ is_accepted v) (a : not ok ≡ false) where
  good : GoodSettings k.rows k.cols k.params k.clock
  good =
      let p = gate_passed (settings_of k) (settings_gate k) (refuse_state k.rounding.state Accepted) (sym ev ∙ let_pass v ok asked a) in
      good_settings k.rows k.cols k.params k.clock p.0

  cells_few : k.rows * k.cols ≤ 2 ^ 23
  cells_few = product_le k.rows k.cols 128 65536 good.grid.rows_high good.grid.cols_high

  pub shape_fits : k.rows * k.cols < 2 ^ 64
  shape_fits = omega (arith, cells_few)

  pub size_fits : (d : ℕ) → d ≡ depth_of k.params.t → k.rows * k.cols * d < 2 ^ 64
  size_fits d ed = omega (arith, product_le (k.rows * k.cols) d (2 ^ 23) 4104 cells_few (omega (arith, good.fit.t_high)))

-- THE KEY
pub below_all : (m : ℕ) (key : List ℕ) → list_all (λ x. ltb x m) key ≡ all_below m key
unfolding all_below
below_all m [] = refl
below_all m (x ∷ xs) = ap (λ (b : Bool). ltb x m && b) (below_all m xs)
