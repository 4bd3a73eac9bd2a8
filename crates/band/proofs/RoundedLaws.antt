-- A rounded division gives the quotient, or one more where there is a remainder: so it is near, and exact on a multiple.
use Prim.Native.Nat.{ℕ, ◌+◌, ◌*◌, ◌/◌, ◌%◌, ◌<◌}
use mathlib.Core.Path.{◌≡◌, refl, ◌∙◌}
use native.Mathlib.Omega.{arith}
use native.Mathlib.Decide.{ℕ_discrete}
use native.Mathlib.Nat.{mod-lt, div-add-mod', mul-mod_right, mul-div_cancel_left, add-mul, one-mul}
use Rattle.rounding.specs.Draws.{rounded_div}
use Rattle.rounding.proofs.DivisionLaws.{value_le, value_ge, one_more}
use Rattle.band.proofs.SubWindow.{Rounded}

module _ (v c : ℕ) (hc : 0 < c) where
  sum : v / c * c + v % c ≡ v
  sum = div-add-mod' v c

  rest : v % c < c
  rest = mod-lt v hc

  at_quotient : Rounded c v (v / c)
  at_quotient = record { low = omega (arith, sum); high = omega (arith, sum, rest); exact = λ m e. rw e (mul-div_cancel_left m hc) }

  above : (v % c ≡ 0 → ⊥) → Rounded c v (v / c + 1)
  above ne =
      let d : (v / c + 1) * c ≡ v / c * c + c = add-mul (v / c) 1 c ∙ rw (one-mul c) refl in
      record { low = rw d (omega (arith, sum)); high = rw d (omega (arith, sum, rest)); exact = λ m e. absurd (ne (rw e (mul-mod_right c m))) }

  pub rounded : (σ : ℕ) → Rounded c v (rounded_div v c σ).value
  rounded σ = by (ℕ_discrete (rounded_div v c σ).value (v / c + 1))
    where
      by : Dec ((rounded_div v c σ).value ≡ v / c + 1) → Rounded c v (rounded_div v c σ).value
      by (yes e) = rw e (above (one_more v c σ e).0)
      by (no ne) =
          let e : (rounded_div v c σ).value ≡ v / c = omega (arith, value_le v c σ, value_ge v c σ) in
          rw e at_quotient
