-- What a rounded division gives, read off its two cases. Assumes nothing.
use Prim.Native.Nat.{ℕ, ◌+◌, ◌/◌, ◌%◌, ◌≤◌, ◌<◌}
use mathlib.Core.Path.{◌≡◌, refl, ap, ◌∙◌}
use mathlib.Core.Bool.{Bool, true, false, cond}
use native.Mathlib.Omega.{arith}
use native.Mathlib.Nat.{div-add-mod', le-mul_of_pos_right}
use lib.Dec.{ltb, eqb}
use borrow.Author.Tests.{eq-eqb, ne_eqb, eqb-true, eqb-false, lt-ltb, le-ltb, ltb-true, ltb-false}
use Rattle.rounding.specs.declared.Draw.{Draw}
use Rattle.rounding.specs.declared.Divided.{Divided}
use Rattle.rounding.specs.Draws.{next_state, yielded, draw_of, state_after, rounded_div}

-- what holds of both cases of a test holds of the one that is picked
both : {A : Type 0} (P : A → Type 0) (b : Bool) (x y : A) → P x → P y → P (cond b x y)
both P true x y p q = p
both P false x y p q = q

-- the usual base, known to the compiler
pub halved : (v d σ : ℕ) (r : Divided) → d ≡ 2 → r ≡ rounded_div v 2 σ → r ≡ rounded_div v d σ
halved v d σ r e er = er ∙ rw e refl

module _ (v d σ : ℕ) where
  -- the three cases, as the code comes to them
  pub whole_case : v % d ≡ 0 → record { value = v / d; state = σ; draws = 0 } ≡ rounded_div v d σ
  unfolding rounded_div
  whole_case e = simp (eq-eqb _ _ e)

  pub up_case : (r : Draw) → (v % d ≡ 0 → ⊥) → r ≡ draw_of σ → r.value % d < v % d
      → record { value = v / d + 1; state = r.state; draws = 1 } ≡ rounded_div v d σ
  unfolding rounded_div
  up_case r n e h = rw e (simp (ne_eqb _ _ n, lt-ltb _ _ (rw e at h)))

  pub down_case : (r : Draw) → (v % d ≡ 0 → ⊥) → r ≡ draw_of σ → v % d ≤ r.value % d
      → record { value = v / d; state = r.state; draws = 1 } ≡ rounded_div v d σ
  unfolding rounded_div
  down_case r n e h = rw e (simp (ne_eqb _ _ n, le-ltb _ _ (rw e at h)))

  pub draws_le : (rounded_div v d σ).draws ≤ 1
  unfolding rounded_div
  draws_le = both (λ (r : Divided). r.draws ≤ 1) (eqb (v % d) 0) _ _ (omega arith) (omega arith)

  pub value_le : (rounded_div v d σ).value ≤ v / d + 1
  unfolding rounded_div
  value_le =
      both (λ (r : Divided). r.value ≤ v / d + 1) (eqb (v % d) 0) _ _ (omega arith)
      (both (λ (n : ℕ). n ≤ v / d + 1) (ltb (yielded (next_state σ) % d) (v % d)) (v / d + 1) (v / d) (omega arith) (omega arith))

  pub value_ge : v / d ≤ (rounded_div v d σ).value
  unfolding rounded_div
  value_ge =
      both (λ (r : Divided). v / d ≤ r.value) (eqb (v % d) 0) _ _ (omega arith)
      (both (λ (n : ℕ). v / d ≤ n) (ltb (yielded (next_state σ) % d) (v % d)) (v / d + 1) (v / d) (omega arith) (omega arith))

  -- the state is exactly as many draws on as the division says
  pub state_is : (rounded_div v d σ).state ≡ state_after (rounded_div v d σ).draws σ
  unfolding rounded_div state_after
  state_is =
      both (λ (r : Divided). r.state ≡ state_after r.draws σ) (eqb (v % d) 0) (record { value = v / d; state = σ; draws = 0 })
      (record { value = cond (ltb (yielded (next_state σ) % d) (v % d)) (v / d + 1) (v / d); state = next_state σ; draws = 1 }) refl refl

  -- one more than the quotient is given exactly where there is a remainder and the draw falls below it (the other way: up-case)
  pub one_more : (rounded_div v d σ).value ≡ v / d + 1 → (v % d ≡ 0 → ⊥) × (yielded (next_state σ) % d < v % d)
  one_more q = go (eqb (v % d) 0) refl (ltb (yielded (next_state σ) % d) (v % d)) refl
    where
      go : (x : Bool) → eqb (v % d) 0 ≡ x → (y : Bool) → ltb (yielded (next_state σ) % d) (v % d) ≡ y → (v % d ≡ 0 → ⊥) × (yielded (next_state σ) % d < v % d)
      go true e y f = absurd (omega (arith, ap (λ (r : Divided). r.value) (whole_case (eqb-true _ _ e))))
      go false e true f = (eqb-false _ _ e, ltb-true _ _ f)
      go false e false f = absurd (omega (arith, ap (λ (r : Divided). r.value) (down_case (draw_of σ) (eqb-false _ _ e) refl (ltb-false _ _ f))))

-- with a remainder the quotient is below what is divided, so one more fits
pub quotient_lt : (v d : ℕ) → 0 < d → (v % d ≡ 0 → ⊥) → v / d + 1 ≤ v
quotient_lt v d p n = omega (arith, div-add-mod' v d, le-mul_of_pos_right {m = d} (v / d) p)
