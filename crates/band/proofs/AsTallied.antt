-- A list of calls with each call judged by the tally's test alone leads to the same world and the same peak: so long lists can be computed,
-- without the whole table for each call.
use Prim.Native.Nat.{ℕ, max}
use mathlib.Core.Path.{◌≡◌, refl, ◌∙◌}
use mathlib.Core.Bool.{Bool, true, false, cond}
use mathlib.Core.List.{List, [], ◌∷◌}
use Rattle.refusal.specs.declared.Verdict.{Verdict}
use Rattle.refusal.specs.declared.Verdict.TheVariants.{Accepted, Refused, Unsound}
use Rattle.refusal.specs.Refusals.{is_accepted, when_accepted}
use Rattle.sketch.specs.declared.MicroCm.{MicroCm}
use Rattle.sketch.specs.Sketch.{World}
use Rattle.sketch.specs.Refusals.{world}
use Rattle.band.specs.Calls.{Call, Settings, fresh, next, run}
use Rattle.band.specs.Tally.{Tally, accepts, empty, tallied}
use Rattle.band.specs.Peak.{zoom_now, zoom_crossing, peak}
use Rattle.band.specs.Band.{AcceptedSettings, after}
use Rattle.band.proofs.Runs.{verdict_of, called, settled, next_is}
use Rattle.band.proofs.Reached.{Reached, fresh_reached}
use Rattle.band.proofs.RefusalLaws.{verdict_accepts}
use Rattle.band.proofs.Steps.{next_reached}

-- where a list ends, and the peak of a cell on the way
pub record Passage : Type 0 where
  pub last : World
  pub top : ℕ

unfoldable pub passage : Settings → World → List Call → ℕ → Passage
passage S w [] j = record { last = w; top = zoom_now w j }
passage S w (call ∷ calls) j =
    let p = passage S (cond (accepts S call) (settled (called call w)) w) calls j in
    record {
      last = p.last;
      top = max (zoom_now w j) (max (cond (accepts S call) (zoom_crossing w call j) 0) p.top);
    }

by_verdict {ℓ} : {A : Type ℓ} (v : Verdict) (done left : A) → when_accepted v done left ≡ cond (is_accepted v) done left
by_verdict Accepted done left = refl
by_verdict (Refused k) done left = refl
by_verdict (Unsound j) done left = refl

-- a choice of worlds, settled, is a choice of settled worlds
settled_choice : (a : Bool) (x y : World) → settled (cond a x y) ≡ cond a (settled x) (settled y)
settled_choice true x y = refl
settled_choice false x y = refl

module _ (S : Settings) (ok : AcceptedSettings S) (j : ℕ) where
  abbrev Same : World → List Call → Type 0
  Same w calls = passage S w calls j ≡ record { last = run w calls; top = peak w calls j }

  module _ (T : Tally) (k : MicroCm) (g : List ℕ) (h : Reached S T (world k g)) (call : Call) where
    abbrev w : World
    w = world k g

    judged {ℓ} : {A : Type ℓ} (done left : A) → when_accepted (verdict_of w call) done left ≡ cond (accepts S call) done left
    judged done left = by_verdict (verdict_of w call) done left ∙ rw (verdict_accepts S ok T w h call) refl

    next_judged : next w call ≡ cond (accepts S call) (settled (called call w)) w
    next_judged = next_is k g call ∙ rw (judged (called call w) w) (settled_choice (accepts S call) (called call w) w)

  passage_on : (calls : List Call) (T : Tally) (k : MicroCm) (g : List ℕ) → Reached S T (world k g) → Same (world k g) calls
  unfolding passage run peak
  passage_on [] T k g h = refl
  passage_on (call ∷ calls) T k g h =
      let w = world k g in
      let to = next w call in
      let on : Same to calls = passage_on calls (tallied S T call) to.sketch to.grid (next_reached S ok T k g h call) in
      rw (← next_judged T k g h call, on, judged T k g h call (zoom_crossing w call j) 0) refl

  pub passage_is : (seed : ℕ) (calls : List Call) → passage S (fresh S seed) calls j ≡ record { last = after S seed calls; top = peak (fresh S seed) calls j }
  passage_is seed calls =
      let start = fresh S seed in
      passage_on calls (empty S) start.sketch start.grid (fresh_reached S ok seed)
