-- Dividing each number of a list: one law of a rounded division for each element, and the draws add up along the list. Assumes nothing.
use Prim.Native.Nat.{ℕ, zero, suc, ◌/◌, ◌≤◌, ◌<◌}
use mathlib.Core.Path.{◌≡◌, refl, sym, ap, ◌∙◌}
use mathlib.Core.List.{List, [], ◌∷◌}
use lib.ListN.{length, get_or}
use native.Mathlib.Omega.{arith}
use native.Mathlib.Nat.{div-le_of_le-mul}
use Rattle.rounding.specs.Draws.{rounded_div, state_after}
use Rattle.rounding.proofs.DivisionLaws.{draws_le, value_le, state_is}
use Rattle.rounding.proofs.StateLaws.{after_add}
use Rattle.cell.specs.Insertion.{divide_each}
use Rattle.laws.proofs.SmallLaws.{Small}

-- half of 256, and one more, is a byte
pub quotient_small : (v c σ : ℕ) → v ≤ 256 → 2 ≤ c → (rounded_div v c σ).value < 256
quotient_small v c σ hv hc =
    let q : v / c ≤ 128 = div-le_of_le-mul c (omega arith) in
    omega (arith, value_le v c σ)

module _ (c : ℕ) where
  pub divide_length : (l : List ℕ) (σ : ℕ) → length (divide_each c l σ).bytes ≡ length l
  unfolding divide_each
  divide_length [] σ = refl
  divide_length (v ∷ vs) σ = ap suc (divide_length vs _)

  pub divide_draws : (l : List ℕ) (σ : ℕ) → (divide_each c l σ).draws ≤ length l
  unfolding divide_each
  divide_draws [] σ = omega arith
  divide_draws (v ∷ vs) σ = omega (arith, draws_le v c σ, divide_draws vs (rounded_div v c σ).state)

  pub divide_state : (l : List ℕ) (σ : ℕ) → (divide_each c l σ).state ≡ state_after (divide_each c l σ).draws σ
  unfolding divide_each state_after
  divide_state [] σ = refl
  divide_state (v ∷ vs) σ =
      let d = rounded_div v c σ in
      let rest = (divide_each c vs d.state).draws in
      divide_state vs d.state ∙ ap (state_after rest) (state_is v c σ) ∙ sym (after_add d.draws rest σ)

  -- rounding loses nothing
  pub divide_lost : (l : List ℕ) (σ : ℕ) → (divide_each c l σ).lost ≡ 0
  unfolding divide_each
  divide_lost [] σ = refl
  divide_lost (v ∷ vs) σ = divide_lost vs _

  -- what a rounded division does to any number, whatever the state, is done to each
  pub divide_each_lem : (P : ℕ → ℕ → Type 0) → ((v σ : ℕ) → P v (rounded_div v c σ).value)
      → (l : List ℕ) (σ i : ℕ) → i < length l → P (get_or l i 0) (get_or (divide_each c l σ).bytes i 0)
  unfolding divide_each
  divide_each_lem P p [] σ i h = absurd (omega arith)
  divide_each_lem P p (v ∷ vs) σ zero h = p v σ
  divide_each_lem P p (v ∷ vs) σ (suc i) h = divide_each_lem P p vs (rounded_div v c σ).state i (omega arith)

  pub divide_small : 2 ≤ c → (l : List ℕ) (σ : ℕ) → ((i : ℕ) → get_or l i 0 < 257) → Small (divide_each c l σ).bytes
  unfolding divide_each
  divide_small base [] σ h i = omega arith
  divide_small base (v ∷ vs) σ h zero = quotient_small v c σ (omega (arith, h 0)) base
  divide_small base (v ∷ vs) σ h (suc i) = divide_small base vs (rounded_div v c σ).state (λ j. h (suc j)) i
