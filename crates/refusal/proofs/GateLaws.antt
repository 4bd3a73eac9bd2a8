-- Causes are told in order: the first that holds is the answer, and where none does what comes after decides. Assumes nothing.
use mathlib.Core.Path.{◌≡◌, refl, sym, ap, ◌∙◌}
use mathlib.Core.Bool.{false}
use Rattle.refusal.specs.declared.Verdict.{Verdict}
use Rattle.refusal.specs.declared.Verdict.TheVariants.{Accepted, Refused, Unsound}
use Rattle.refusal.specs.Refusals.{is_accepted, when_accepted}
use Rattle.refusal.proofs.VerdictLaws.{refused_leaves}

pub both_accepted : (v rest : Verdict) → when_accepted v rest v ≡ Accepted → (v ≡ Accepted) × (rest ≡ Accepted)
both_accepted Accepted rest e = (refl, e)
both_accepted (Refused n) rest e = (cc, cc)
both_accepted (Unsound j) rest e = (cc, cc)

abbrev pub Gate : (Verdict → Verdict) → Type 0
Gate f = (rest : Verdict) → f rest ≡ when_accepted (f Accepted) rest (f Accepted)

pub gate_chain : (f g : Verdict → Verdict) → Gate f → Gate g → Gate (λ rest. f (g rest))
gate_chain f g a b rest = a (g rest) ∙ by (f Accepted) ∙ ap (λ (v : Verdict). when_accepted v rest v) (sym (a (g Accepted)))
  where
    by : (v : Verdict) → when_accepted v (g rest) v ≡ when_accepted (when_accepted v (g Accepted) v) rest (when_accepted v (g Accepted) v)
    by Accepted = b rest
    by (Refused n) = refl
    by (Unsound j) = refl

module _ (f : Verdict → Verdict) (gate : Gate f) (rest : Verdict) where
  pub gate_passed : f rest ≡ Accepted → (f Accepted ≡ Accepted) × (rest ≡ Accepted)
  gate_passed e = both_accepted (f Accepted) rest (sym (gate rest) ∙ e)

  pub gate_open : f Accepted ≡ Accepted → f rest ≡ rest
  gate_open e = gate rest ∙ rw e

  pub gate_shut : (v : Verdict) → v ≡ f Accepted → is_accepted v ≡ false → f rest ≡ v
  gate_shut v e n = gate rest ∙ rw (← e) (refused_leaves v rest v n)
