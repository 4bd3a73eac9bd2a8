-- A list of calls beside the tally, each a list of stages: what holds at the start and each of them keeps holds at the end.
use Prim.Native.Nat.{ℕ}
use mathlib.Core.Path.{◌≡◌, refl, ap, ◌∙◌}
use mathlib.Core.Bool.{false}
use mathlib.Core.List.{List, [], ◌∷◌}
use Rattle.refusal.specs.declared.Verdict.{Verdict}
use Rattle.refusal.specs.declared.Verdict.TheVariants.{Accepted}
use Rattle.refusal.specs.Refusals.{is_accepted, when_accepted}
use Rattle.refusal.proofs.VerdictLaws.{refused_leaves}
use Rattle.sketch.specs.declared.MicroCm.{MicroCm}
use Rattle.sketch.specs.Sketch.{World}
use Rattle.sketch.specs.Refusals.{sketch_call, world, update_call, update_at_call, advance_call}
use Rattle.band.specs.Calls.{Call, update, update_at, advance, Settings, outcome, next, run}
use Rattle.band.specs.Stages.{Stage, stages_of, done, through}
use Rattle.band.specs.Tally.{Tally, marked, marked_each, tallied, tally_from}

abbrev pub verdict_of : World → Call → Verdict
verdict_of w call = (outcome w call).answer.verdict

-- a call's stages done
abbrev pub called : Call → World → World
called call w = through (stages_of w.sketch.clock call) w

-- as the next call finds it
abbrev pub settled : World → World
settled w = world w.sketch w.grid

module _ (k : MicroCm) (g : List ℕ) where
  abbrev w : World
  w = world k g

  -- AN ACCEPTED CALL IS ITS STAGES, one after another
  pub outcome_is : (call : Call) → outcome w call ≡ sketch_call (verdict_of w call) (called call w) w
  unfolding update_call update_at_call advance_call through
  outcome_is (update key) = refl
  outcome_is (update_at key reading) = refl
  outcome_is (advance reading) = refl

  pub next_is : (call : Call) → next w call ≡ settled (when_accepted (verdict_of w call) (called call w) w)
  next_is call = ap (λ o. world o.answer.sketch o.grid) (outcome_is call)

  pub next_accepted : (call : Call) → verdict_of w call ≡ Accepted → next w call ≡ settled (called call w)
  next_accepted call e = next_is call ∙ rw e refl

  pub next_refused : (call : Call) → is_accepted (verdict_of w call) ≡ false → next w call ≡ w
  next_refused call e = next_is call ∙ rw (refused_leaves (verdict_of w call) (called call w) w e) refl

-- WHAT EACH STAGE KEEPS, a list of stages keeps
module _ (Known : List Stage → Tally → World → Type 0)
    (on : (stage : Stage) (stages : List Stage) (T : Tally) (w : World) → Known (stage ∷ stages) T w → Known stages (marked T stage) (done stage w)) where
  pub through_on : (stages : List Stage) (T : Tally) (w : World) → Known stages T w → Known [] (marked_each T stages) (through stages w)
  unfolding marked_each through
  through_on [] T w h = h
  through_on (stage ∷ stages) T w h = through_on stages (marked T stage) (done stage w) (on stage stages T w h)

-- WHAT EACH CALL KEEPS, a list of calls keeps
module _ (S : Settings) (Known : List Call → Tally → World → Type 0)
    (on : (call : Call) (calls : List Call) (T : Tally) (k : MicroCm) (g : List ℕ) → Known (call ∷ calls) T (world k g)
    → Known calls (tallied S T call) (next (world k g) call)) where
  pub run_on : (calls : List Call) (T : Tally) (k : MicroCm) (g : List ℕ) → Known calls T (world k g)
      → Known [] (tally_from S T calls) (run (world k g) calls)
  unfolding run tally_from
  run_on [] T k g h = h
  run_on (call ∷ calls) T k g h =
      let w = next (world k g) call in
      run_on calls (tallied S T call) w.sketch w.grid (on call calls T k g h)
