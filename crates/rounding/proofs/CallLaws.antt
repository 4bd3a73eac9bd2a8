-- The ways out of the public calls, in the form in which the code comes to them. Assumes nothing.
use Prim.Native.Nat.{ℕ}
use mathlib.Core.Path.{◌≡◌}
use borrow.Author.Tests.{eq-eqb, ne_eqb}
use Rattle.refusal.specs.declared.Verdict.TheVariants.{Accepted, Refused}
use Rattle.rounding.specs.declared.Draw.{Draw}
use Rattle.rounding.specs.declared.Divided.{Divided}
use Rattle.rounding.specs.Draws.{draw_of, rounded_div}
use Rattle.rounding.specs.Refusals.{draw_call, division_answer, division_call}

module _ (σ : ℕ) where
  pub draw_refused : σ ≡ 0 → record { verdict = Refused 5; value = 0; rounding = record { state = σ } } ≡ draw_call σ
  unfolding draw_call
  draw_refused e = simp (eq-eqb _ _ e)

  pub draw_done : (r : Draw) → (σ ≡ 0 → ⊥) → r ≡ draw_of σ → record { verdict = Accepted; value = r.value; rounding = record { state = r.state } } ≡ draw_call σ
  unfolding draw_call
  draw_done r n e = rw e (simp (ne_eqb _ _ n))

module _ (v d σ : ℕ) where
  pub state_refused : σ ≡ 0 → record { verdict = Refused 5; value = 0; rounding = record { state = σ }; draws = 0 } ≡ division_call v d σ
  unfolding division_call
  state_refused e = simp (eq-eqb _ _ e)

  pub divisor_refused : (σ ≡ 0 → ⊥) → d ≡ 0 → record { verdict = Refused 15; value = 0; rounding = record { state = σ }; draws = 0 } ≡ division_call v d σ
  unfolding division_call
  divisor_refused n e = simp (ne_eqb _ _ n, eq-eqb _ _ e)

  pub division_done : (r : Divided) → (σ ≡ 0 → ⊥) → (d ≡ 0 → ⊥) → r ≡ rounded_div v d σ → division_answer Accepted r ≡ division_call v d σ
  unfolding division_call
  division_done r n m e = rw e (simp (ne_eqb _ _ n, ne_eqb _ _ m))
