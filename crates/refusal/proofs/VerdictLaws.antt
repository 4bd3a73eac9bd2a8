-- What a verdict decides, by its three cases. Assumes nothing.
use Prim.Native.Nat.{ℕ, ◌≤◌}
use mathlib.Core.Path.{◌≡◌, refl, sym, ap, ◌∙◌}
use mathlib.Core.Bool.{Bool, true, false, not, ◌||◌, true≢false}
use lib.Dec.{ltb}
use borrow.Author.Tests.{ltb-false, le-ltb, not-true, not-false}
use Rattle.refusal.specs.declared.Verdict.{Verdict}
use Rattle.refusal.specs.declared.Verdict.TheVariants.{Accepted, Refused, Unsound}
use Rattle.refusal.specs.Refusals.{is_accepted, refuse, outside, when_accepted}

-- the two ways out of a call that has its verdict
pub accepted_is : (v : Verdict) → is_accepted v ≡ true → v ≡ Accepted
accepted_is Accepted e = refl
accepted_is (Refused k) e = absurd (true≢false (sym e))
accepted_is (Unsound j) e = absurd (true≢false (sym e))

pub refused_never : (v : Verdict) → is_accepted v ≡ false → v ≡ Accepted → ⊥
refused_never v e q = true≢false (sym (ap is_accepted q) ∙ e)

pub refused_leaves {ℓ} : {A : Type ℓ} (v : Verdict) (done left : A) → is_accepted v ≡ false → when_accepted v done left ≡ left
refused_leaves Accepted done left e = absurd (true≢false e)
refused_leaves (Refused k) done left e = refl
refused_leaves (Unsound j) done left e = refl

-- a verdict that the code asked whether it accepts
module _ (v : Verdict) (ok : Bool) (asked : ok ≡ is_accepted v) where
  pub turned_back_lem : not ok ≡ true → is_accepted v ≡ false
  turned_back_lem h = sym asked ∙ not-true ok h

  pub let_pass : not ok ≡ false → v ≡ Accepted
  let_pass h = accepted_is v (sym asked ∙ not-false ok h)

-- a cause, and then the causes after it
pub refuse_then : (k : ℕ) (cause : Bool) (rest : Verdict) → refuse k cause rest ≡ when_accepted (refuse k cause Accepted) rest (refuse k cause Accepted)
refuse_then k true rest = refl
refuse_then k false rest = refl

-- where all is accepted, no cause holds
pub not_refused : (k : ℕ) (cause : Bool) (rest : Verdict) → refuse k cause rest ≡ Accepted → (cause ≡ false) × (rest ≡ Accepted)
not_refused k true rest e = absurd (refused_never (Refused k) refl e)
not_refused k false rest e = (refl, e)

pub inside_range : (low high x : ℕ) → outside low high x ≡ false → (low ≤ x) × (x ≤ high)
inside_range low high x = by (ltb x low) refl (ltb high x) refl
  where
    by : (a : Bool) → ltb x low ≡ a → (b : Bool) → ltb high x ≡ b → a || b ≡ false → (low ≤ x) × (x ≤ high)
    by true p b q e = absurd (true≢false e)
    by false p true q e = absurd (true≢false e)
    by false p false q e = (ltb-false x low p, ltb-false high x q)

pub range_inside : (low high x : ℕ) → low ≤ x → x ≤ high → outside low high x ≡ false
range_inside low high x l h = simp (le-ltb _ _ l, le-ltb _ _ h)
