-- The ways through an audit: turned back, every cell sound, or the cell that a verdict of 14 names. Assumes nothing.
use Prim.Native.Nat.{ℕ}
use mathlib.Core.Path.{◌≡◌, refl, sym, ap, ◌∙◌}
use mathlib.Core.Bool.{Bool, true, false, not}
use mathlib.Core.List.{List}
use Rattle.refusal.specs.declared.Verdict.{Verdict}
use Rattle.refusal.specs.declared.Verdict.TheVariants.{Accepted}
use Rattle.refusal.specs.Refusals.{is_accepted, index_of}
use Rattle.refusal.proofs.VerdictLaws.{refused_leaves, turned_back_lem, let_pass}
use Rattle.sketch.specs.declared.MicroCm.{MicroCm}
use Rattle.sketch.specs.declared.Finding.{Finding}
use Rattle.sketch.specs.declared.Finding.TheVariants as finding
use Rattle.sketch.specs.Sketch.{all_cells}
use Rattle.sketch.specs.Audit.{audit_of}
use Rattle.sketch.specs.Refusals.{refuse_unsound, sketch_verdict, audit_call}
use Rattle.sketch.proofs.AuditLaws.{audit_told}

module _ (k : MicroCm) (g : List ℕ) (v : Verdict) (ev : v ≡ sketch_verdict k g) (ok : Bool) (asked : ok ≡ is_accepted v) where
  pub audit_refused : not ok ≡ true → record { verdict = v; audit = finding.Sound } ≡ audit_call k g
  unfolding audit_call
  audit_refused n =
      rw (← ev) (ap (λ (f : Finding). record { verdict = v; audit = f })
      (sym (refused_leaves v (audit_of k g) finding.Sound (turned_back_lem v ok asked n))))

  module _ (a : not ok ≡ false) where
    found : (f : Finding) → f ≡ audit_of k g → record { verdict = v; audit = f } ≡ audit_call k g
    unfolding audit_call
    found f ef = rw (← ev, let_pass v ok asked a, ef) refl

    module _ (w : Verdict) (ew : w ≡ refuse_unsound k g (all_cells k) Accepted) (sound : Bool) (es : sound ≡ is_accepted w) where
      pub audit_sound : sound ≡ true → record { verdict = v; audit = finding.Sound } ≡ audit_call k g
      audit_sound t = found finding.Sound (sym (audit_told k g w ew ∙ rw (← es, t) refl))

      pub audit_unsound : (index : ℕ) → index ≡ index_of w → sound ≡ false → record { verdict = v; audit = finding.Unsound index } ≡ audit_call k g
      audit_unsound index ei t = found (finding.Unsound index) (sym (audit_told k g w ew ∙ rw (← es, t, ← ei) refl))
