-- `highest` goes down from 31 to the first power that fits, and from 2 ^ 32 on none does: so it is the largest of all.
use Prim.Native.Nat.{ℕ, zero, suc, ◌-◌, ◌^◌, ◌≤◌, ◌<◌}
use mathlib.Core.Path.{◌≡◌}
use mathlib.Core.Logic.{⊎_elim}
use lib.Dec.{leb}
use native.Mathlib.Omega.{arith}
use native.Mathlib.Nat.{pow-zero, pow-le-pow_left, pow-le-pow_right, le_trans, le-suc_iff, lt_of_not-le, not-le_of_lt}
use borrow.Author.Tests.{leb-true, leb-false}
use Rattle.laws.specs.Powers.{highest}
use Rattle.laws.proofs.ChoiceLaws.{either}

module _ (c : ℕ) where
  pub highest_limit : (k : ℕ) → highest c k ≤ k
  unfolding highest
  highest_limit zero = omega arith
  highest_limit (suc k) = either (λ z. z ≤ suc k) (leb (c ^ suc k) (2 ^ 32 - 1)) (suc k) (highest c k) (λ e. omega arith) (λ e. omega (arith, highest_limit k))

  pub highest_fits : (k : ℕ) → c ^ highest c k ≤ 2 ^ 32 - 1
  unfolding highest
  highest_fits zero = rw (pow-zero c) (omega arith)
  highest_fits (suc k) = either (λ z. c ^ z ≤ 2 ^ 32 - 1) (leb (c ^ suc k) (2 ^ 32 - 1)) (suc k) (highest c k) (λ e. leb-true _ _ e) (λ e. highest_fits k)

  highest_last : (k z : ℕ) → c ^ z ≤ 2 ^ 32 - 1 → z ≤ k → z ≤ highest c k
  unfolding highest
  highest_last zero z h l = l
  highest_last (suc k) z h l = either (λ m. z ≤ m) (leb (c ^ suc k) (2 ^ 32 - 1)) (suc k) (highest c k) (λ e. l)
      (λ e. ⊎_elim (λ q. highest_last k z h q) (λ q. absurd (not-le_of_lt (leb-false _ _ e) (rw q at h))) (le-suc_iff.0 l))

  module _ (base : 2 ≤ c) where
    pub highest_largest : (z : ℕ) → c ^ z ≤ 2 ^ 32 - 1 → z ≤ highest c 31
    highest_largest z h =
        let a : 2 ^ 32 ≤ c ^ 32 = pow-le-pow_left base 32 in
        let b : z < 32 = lt_of_not-le (λ l. let q : c ^ 32 ≤ c ^ z = pow-le-pow_right (omega arith) l in omega arith) in
        highest_last 31 z h (omega arith)

    pub power_fits : (z : ℕ) → z ≤ highest c 31 → c ^ z ≤ 2 ^ 32 - 1
    power_fits z l =
        let h : 0 < c = omega arith in
        le_trans (pow-le-pow_right h l) (highest_fits 31)

    -- what a search that stops at the first power too large has found
    pub highest_unique : (z : ℕ) → c ^ z ≤ 2 ^ 32 - 1 → 2 ^ 32 - 1 < c ^ suc z → z ≡ highest c 31
    highest_unique z fits over =
        let l : highest c 31 < suc z = lt_of_not-le (λ l. not-le_of_lt over (power_fits (suc z) l)) in
        omega (arith, highest_largest z fits)
