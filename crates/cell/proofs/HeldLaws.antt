-- A cell that was judged: turned back before it was read, sound, or unsound; what was read goes along. Assumes nothing.
use Prim.Native.Nat.{ℕ, ◌≤◌, ◌<◌}
use mathlib.Core.Path.{◌≡◌, refl, sym, ap, ◌∙◌}
use mathlib.Core.Bool.{Bool, true, false, not, true≢false}
use mathlib.Core.List.{List}
use lib.ListN.{length}
use borrow.Author.Tests.{lt-ltb, le-ltb}
use Rattle.refusal.specs.declared.Verdict.{Verdict}
use Rattle.refusal.specs.declared.Verdict.TheVariants.{Accepted, Unsound}
use Rattle.refusal.specs.Refusals.{is_accepted}
use Rattle.refusal.proofs.VerdictLaws.{refused_never, turned_back_lem, let_pass}
use Rattle.cell.specs.declared.MicroParams.{MicroParams}
use Rattle.cell.specs.Cell.{depth_of, zoom_of, shutter_of, sound_of}
use Rattle.cell.specs.Workers.{Fit, HeldOf, before_cell, unit_or_zero}
use Rattle.cell.proofs.JudgingLaws.{opened_out, opened_on, opened_fit}
use Rattle.cell.proofs.SoundLaws.{sound_tested, unit_held}

module _ (p : MicroParams) (b : List ℕ) (σ : ℕ) (v : Verdict) (judged : v ≡ before_cell p σ (length b) Accepted) (ok : Bool) (asked : ok ≡ is_accepted v) where
  pub held_turned : not ok ≡ true → HeldOf p b σ (record { verdict = v; shutter = 0; unit = 0 })
  held_turned h = record {
    verdict_is = opened_out p σ (length b) v judged ok asked h _;
    judged = λ e. absurd (refused_never v (turned_back_lem v ok asked h) e);
  }

  module _ (h : not ok ≡ false) where
    held_fit : Fit p.t p.c (length b)
    held_fit = opened_fit p σ (length b) v judged ok asked h

    pub held_t : p.t ≤ 4096
    held_t = held_fit.t_high

    pub held_size : length b ≡ depth_of p.t
    held_size = held_fit.size_is

    pub held_low : 2 ≤ p.c
    held_low = held_fit.c_low

    pub held_high : p.c ≤ 256
    held_high = held_fit.c_high

    module _ (z s unit : ℕ) (zoom : z ≡ zoom_of p.t b) (shutter : s ≡ shutter_of p.t b) (worth : unit ≡ unit_or_zero p.c z) where
      pub held_sound : s < unit → HeldOf p b σ (record { verdict = v; shutter = s; unit = unit })
      held_sound l =
          let sound : sound_of p.t p.c b ≡ true = sym (sound_tested p.t p.c b z s unit zoom shutter worth) ∙ lt-ltb s unit l in
          record {
            verdict_is = let_pass v ok asked h ∙ sym (opened_on p σ (length b) v judged ok asked h _ ∙ rw sound refl);
            judged = λ e. record {
              fit = held_fit;
              sound = sound;
              shutter_is = shutter;
              unit_is = unit_held p.t p.c b sound z unit zoom worth;
            };
          }

      pub held_unsound : unit ≤ s → HeldOf p b σ (record { verdict = Unsound 0; shutter = s; unit = unit })
      held_unsound l =
          let sound : sound_of p.t p.c b ≡ false = sym (sound_tested p.t p.c b z s unit zoom shutter worth) ∙ le-ltb s unit l in
          record {
            verdict_is = sym (opened_on p σ (length b) v judged ok asked h _ ∙ rw sound refl);
            judged = λ e. absurd (true≢false (sym (ap is_accepted e)));
          }
