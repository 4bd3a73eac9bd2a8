-- Document 01, "Turning a call back", call by call: the causes of a draw and of a division, in the order in which they are told.
use Rattle.std.specs.Prelude.{ℕ, List, [], ◌∷◌}
use Rattle.refusal.specs.Causes.{Cause, Told}
use Rattle.rounding.specs.Refusals.{no_state, no_divisor, draw_verdict, division_verdict}

-- A DRAW: 5
abbrev pub draw_causes : ℕ → List Cause
draw_causes σ = no_state σ ∷ []

-- A ROUNDED DIVISION: 5, 15
abbrev pub division_causes : ℕ → ℕ → List Cause
division_causes d σ = no_state σ ∷ no_divisor d ∷ []

-- EACH is refused by the first of its causes that holds, and they stand in the table's order
pub record DrawCalls : Type 0 where
  pub draw : (σ : ℕ) → Told (draw_verdict σ) (5 ∷ []) (draw_causes σ)
  pub division : (d σ : ℕ) → Told (division_verdict d σ) (5 ∷ 15 ∷ []) (division_causes d σ)
