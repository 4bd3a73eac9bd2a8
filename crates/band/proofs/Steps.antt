-- Any call leads to a world beside the tally, accepted or refused as the tally judges: so does every list, one call after another.
use Prim.Native.Nat.{ℕ}
use mathlib.Core.Path.{◌≡◌, refl, ◌∙◌}
use mathlib.Core.Bool.{Bool, true, false, cond}
use mathlib.Core.List.{List}
use Rattle.refusal.specs.declared.Verdict.TheVariants.{Accepted}
use Rattle.refusal.proofs.VerdictLaws.{accepted_is}
use Rattle.sketch.specs.declared.MicroCm.{MicroCm}
use Rattle.sketch.specs.Sketch.{World}
use Rattle.sketch.specs.Refusals.{world}
use Rattle.band.specs.Calls.{Call, Settings, fresh, next}
use Rattle.band.specs.Tally.{Tally, accepts, empty, noted, tallied, tally}
use Rattle.band.specs.Band.{AcceptedSettings, after}
use Rattle.band.proofs.Runs.{verdict_of, called, settled, next_accepted, next_refused, run_on}
use Rattle.band.proofs.Reached.{Reached, fresh_reached, called_reached}
use Rattle.band.proofs.RefusalLaws.{verdict_accepts}

module _ (S : Settings) (ok : AcceptedSettings S) where
  module _ (T : Tally) (k : MicroCm) (g : List ℕ) (h : Reached S T (world k g)) where
    abbrev w : World
    w = world k g

    -- ANY CALL, where each of its two cases has what is to be known
    pub step : (Known : Tally → World → Type 0) (call : Call)
        → (accepts S call ≡ true → verdict_of w call ≡ Accepted → Known (noted T call) (settled (called call w)))
        → (next w call ≡ w → Known T w)
        → Known (tallied S T call) (next w call)
    unfolding tallied
    step Known call taken left = by (accepts S call) refl
      where
        by : (a : Bool) → accepts S call ≡ a → Known (cond a (noted T call) T) (next w call)
        by true e =
            let v = accepted_is (verdict_of w call) (verdict_accepts S ok T w h call ∙ e) in
            rw (next_accepted k g call v) (taken e v)
        by false e =
            let same = next_refused k g call (verdict_accepts S ok T w h call ∙ e) in
            rw same (left same)

    pub next_reached : (call : Call) → Reached S (tallied S T call) (next w call)
    next_reached call = step (Reached S) call (λ e v. called_reached S ok T w h call e) (λ same. h)

  -- FOR EVERY LIST OF CALLS
  pub reached : (seed : ℕ) (calls : List Call) → Reached S (tally S calls) (after S seed calls)
  reached seed calls =
      let start = fresh S seed in
      run_on S (λ calls. Reached S) (λ call calls T k g h. next_reached T k g h call) calls (empty S) start.sketch start.grid (fresh_reached S ok seed)
