-- The list of the band starts where a fresh start does: of the settings that one accepts and no others, with the sketch and the grid that it gives.
use Prim.Native.Nat.{ℕ}
use mathlib.Core.Path.{◌≡◌, refl, ◌∙◌}
use mathlib.Core.List.{List}
use lib.ListN.{length}
use borrow.Author.Tests.{eqb-true, eq-eqb, not-false}
use Rattle.refusal.specs.declared.Verdict.{Verdict}
use Rattle.refusal.specs.declared.Verdict.TheVariants.{Accepted}
use Rattle.refusal.proofs.VerdictLaws.{not_refused}
use Rattle.sketch.specs.Sketch.{grid_bytes}
use Rattle.sketch.specs.Refusals.{SketchOutcome, fresh_verdict, fresh_call}
use Rattle.band.specs.Calls.{Settings, fresh}
use Rattle.band.specs.Band.{AcceptedSettings}
use Rattle.band.proofs.RefusalLaws.{settings_first, settings_pass}

module _ (S : Settings) (seed : ℕ) (lent : List ℕ) where
  -- a fresh start of these settings, of any seed and any lent grid
  abbrev verdict : Verdict
  verdict = fresh_verdict S.rows S.cols S.params S.clock seed lent

  abbrev start : SketchOutcome
  start = fresh_call S.rows S.cols S.params S.clock seed lent

  abbrev bytes : ℕ
  bytes = grid_bytes (fresh S seed).sketch

  -- IF IT IS ACCEPTED, the band accepts the settings, and the lent grid is as long as the fresh one
  pub start_settings : verdict ≡ Accepted → AcceptedSettings S
  start_settings e = rw ((settings_first S _ e).1 Accepted) refl

  pub start_length : verdict ≡ Accepted → length lent ≡ bytes
  start_length e = eqb-true _ _ (not-false _ (not_refused 6 _ _ (settings_first S _ e).0).0)

  -- and it gives the very sketch and grid that the list starts from, with no draw and no loss
  pub fresh_start : verdict ≡ Accepted
      → start ≡ record { answer = record { verdict = Accepted; sketch = (fresh S seed).sketch; draws = 0; lost = 0 }; grid = (fresh S seed).grid }
  unfolding fresh_call
  fresh_start e = rw e refl

  -- AND THE OTHER WAY: settings that the band accepts and a grid of that length are accepted
  pub start_accepted : AcceptedSettings S → length lent ≡ bytes → verdict ≡ Accepted
  start_accepted ok e = settings_pass S ok S.clock refl _ ∙ rw (eq-eqb (length lent) bytes e) refl
