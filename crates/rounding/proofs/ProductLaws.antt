-- A product modulo 2 ^ 64 by halves of 32 bits: what the columns past 64 bits hold is a multiple of 2 ^ 64.
-- Assumes nothing.
use Prim.Native.Nat.{ℕ, ◌+◌, ◌*◌, ◌/◌, ◌%◌, ◌^◌, ◌<◌}
use mathlib.Core.Path.{◌≡◌, refl, sym, ap₂, ◌∙◌}
use native.Mathlib.Nat.{le_of_lt, lt_of_le_of_lt, mul-le-mul_left, add_assoc, add_comm, add_left_comm, mul_assoc, mul_comm, mul_left_comm, mul-add, add-mul}
use native.Mathlib.Omega.{arith}
use lib.Pow.{split, shl_lt}

-- a number of s bits times one of r bits has at most s + r bits
pub product_lt : {a b : ℕ} (s r : ℕ) → a < 2 ^ s → b < 2 ^ r → a * b < 2 ^ (s + r)
product_lt {a} s r ha hb = lt_of_le_of_lt (mul-le-mul_left a (le_of_lt hb)) (shl_lt s r ha)

-- two numbers of two digits each in base P
expand : (P a₀ a₁ b₀ b₁ : ℕ) → (a₁ * P + a₀) * (b₁ * P + b₀) ≡ a₁ * b₁ * (P * P) + (a₁ * b₀ + a₀ * b₁) * P + a₀ * b₀
expand P a₀ a₁ b₀ b₁ = simp (mul-add, add-mul, mul_assoc, mul_comm, mul_left_comm, add_assoc, add_comm, add_left_comm) refl

-- the columns of the four products, with what stands past 64 bits dropped
columns : (x y z w n : ℕ) → n ≡ x * (2 ^ 32 * 2 ^ 32) + (y + z) * 2 ^ 32 + w
    → ((y % 2 ^ 32 + z % 2 ^ 32 + w / 2 ^ 32) * 2 ^ 32) % 2 ^ 64 + w % 2 ^ 32 ≡ n % 2 ^ 64
columns x y z w n e = omega arith

pub halves : (a b : ℕ)
    → ((a / 2 ^ 32 * (b % 2 ^ 32) % 2 ^ 32 + a % 2 ^ 32 * (b / 2 ^ 32) % 2 ^ 32 + a % 2 ^ 32 * (b % 2 ^ 32) / 2 ^ 32) * 2 ^ 32) % 2 ^ 64
    + a % 2 ^ 32 * (b % 2 ^ 32) % 2 ^ 32
    ≡ (a * b) % 2 ^ 64
halves a b =
    columns (a / 2 ^ 32 * (b / 2 ^ 32)) (a / 2 ^ 32 * (b % 2 ^ 32)) (a % 2 ^ 32 * (b / 2 ^ 32)) (a % 2 ^ 32 * (b % 2 ^ 32)) (a * b)
    (ap₂ (λ (x y : ℕ). x * y) (sym (split a 32)) (sym (split b 32)) ∙ expand (2 ^ 32) (a % 2 ^ 32) (a / 2 ^ 32) (b % 2 ^ 32) (b / 2 ^ 32))
