-- What document 01 leans on beside the band, at the end of every list of calls: read off what each call keeps.
use Prim.Native.Nat.{ℕ, ◌*◌, ◌<◌}
use mathlib.Core.Path.{◌≡◌, sym, ap, ◌∙◌}
use mathlib.Core.Bool.{true}
use mathlib.Core.List.{List}
use lib.ListN.{length}
use Rattle.refusal.specs.declared.Verdict.TheVariants.{Accepted}
use Rattle.refusal.specs.Refusals.{is_accepted}
use Rattle.refusal.proofs.VerdictLaws.{accepted_is}
use Rattle.cell.specs.Cell.{sound_of}
use Rattle.sketch.specs.Sketch.{grid_bytes, cell_of, World}
use Rattle.band.specs.Calls.{Call, Settings}
use Rattle.band.specs.Tally.{accepts, tally}
use Rattle.band.specs.Band.{AcceptedSettings, after}
use Rattle.band.proofs.Runs.{verdict_of}
use Rattle.band.proofs.Reached.{Reached}
use Rattle.band.proofs.RefusalLaws.{arguments_verdict, verdict_is, verdict_accepts}
use Rattle.band.proofs.Steps.{reached}

module _ (S : Settings) (ok : AcceptedSettings S) (seed : ℕ) (calls : List Call) where
  abbrev w : World
  w = after S seed calls

  abbrev here : Reached S (tally S calls) w
  here = reached S ok seed calls

  -- the sketch's clock is the tally's
  pub clock_as_tallied : w.sketch.clock ≡ (tally S calls).clock
  clock_as_tallied = here.clock

  -- no state is 0: 5 never arises
  pub state_nonzero : w.sketch.rounding.state ≡ 0 → ⊥
  state_nonzero = here.good.alive

  -- the grid's length is right: 6 never arises
  pub grid_whole : length w.grid ≡ grid_bytes w.sketch
  grid_whole = here.good.whole

  -- every cell is sound: 14 never arises
  pub cells_sound : (j : ℕ) → j < S.rows * S.cols → sound_of S.params.t S.params.c (cell_of w.sketch w.grid j) ≡ true
  cells_sound = rw here.settings (rw here.settings at here.good.sound)

  -- A CALL is refused exactly when the tally's own test says so, and with the lower of 7 and 8 that applies
  pub verdict_as_tallied : (call : Call) → verdict_of w call ≡ arguments_verdict S call
  verdict_as_tallied = verdict_is S ok (tally S calls) w here

  pub accepted_as_tallied : (call : Call) → is_accepted (verdict_of w call) ≡ accepts S call
  accepted_as_tallied = verdict_accepts S ok (tally S calls) w here

  pub accepted_exactly : (call : Call) → (verdict_of w call ≡ Accepted → accepts S call ≡ true) × (accepts S call ≡ true → verdict_of w call ≡ Accepted)
  accepted_exactly call = (
    λ e. sym (accepted_as_tallied call) ∙ ap is_accepted e,
    λ e. accepted_is (verdict_of w call) (accepted_as_tallied call ∙ e),
  )
