-- The ways through the calls that read a key: each way out is what its definition gives there. Assumes nothing.
use Prim.Native.Nat.{ℕ, ◌/◌}
use mathlib.Core.Path.{◌≡◌, refl, sym, ap, ◌∙◌}
use mathlib.Core.Bool.{Bool, true, false, not, ◌&&◌}
use mathlib.Core.List.{List}
use lib.Ieee.{Float}
use lib.ListN.{length}
use Rattle.laws.specs.Unit.{in_unit}
use Rattle.refusal.specs.declared.Verdict.{Verdict}
use Rattle.refusal.specs.declared.Verdict.TheVariants.{Accepted}
use Rattle.refusal.specs.Refusals.{is_accepted}
use Rattle.refusal.proofs.VerdictLaws.{refused_leaves, turned_back_lem, let_pass, not_refused}
use Rattle.refusal.proofs.GateLaws.{gate_passed}
use Rattle.clock.specs.Clock.{fraction_of}
use Rattle.sketch.specs.declared.MicroCm.{MicroCm}
use Rattle.sketch.specs.declared.ReadingAnswer.{ReadingAnswer}
use Rattle.sketch.specs.Figures.{under_of, over_of, begun_of, mean_of, has_oldest, one_reading}
use Rattle.sketch.specs.Refusals.{key_fits, refuse_sketch, refuse_key, read_verdict, read_with_verdict, no_reading, reading_answer, read_call, read_with_call, mean_call}
use Rattle.sketch.specs.Workers.{Ready, Readable}
use Rattle.sketch.proofs.ReadyLaws.{keyed_ready}
use Rattle.sketch.proofs.ReadingLaws.{keyed, keyed_gate, cells, fraction_then}
use Rattle.sketch_reading_figures.specs.declared.worker.Estimated.{Estimated}
use Rattle.sketch_reading_figures.specs.Workers.{estimate_of}

-- THE VERDICTS
module _ (k : MicroCm) (key g : List ℕ) where
  module _ (v : Verdict) (ev : v ≡ refuse_sketch k g (refuse_key k key Accepted)) (ok : Bool) (asked : ok ≡ is_accepted v) where
    module _ (a : not ok ≡ false) where
      good : Ready k (length g) × (key_fits k key ≡ true)
      good = keyed_ready k key g (sym ev ∙ let_pass v ok asked a)

      pub keyed_grid : Ready k (length g)
      keyed_grid = good.0

      pub keyed_fits : key_fits k key ≡ true
      keyed_fits = good.1

  -- what an accepted verdict says
  readable_then : (rest : Verdict) → (rest ≡ Accepted → cells k key g ≡ Accepted) → keyed k key g rest ≡ Accepted → Readable k key g
  readable_then rest last e =
      let p = gate_passed (keyed k key g) (keyed_gate k key g) rest e in
      let r = keyed_ready k key g p.0 in
      record { ready = r.0; fits = r.1; judged = last p.1 }

  readable : read_verdict k key g ≡ Accepted → Readable k key g
  readable = readable_then (cells k key g) (λ e. e)

  readable_with : (fraction : Float) → read_with_verdict k key fraction g ≡ Accepted → Readable k key g
  readable_with fraction = readable_then (fraction_then k key g fraction) (λ e. (not_refused 13 (has_oldest k && not (in_unit fraction)) (cells k key g) e).1)

-- THE MEAN
-- What a mean is made of. Its function proves without this law, which docs/landings/T-08.md names.
pub mean_made : (k : MicroCm) (key g : List ℕ) (under begun mean : ℕ) → under ≡ under_of k g key → begun ≡ begun_of k → mean ≡ under / begun
    → mean ≡ mean_of k g key
mean_made k key g under begun mean eu eb em = em ∙ rw (eu, eb) refl

-- THE ANSWERS
module _ (k : MicroCm) (key g : List ℕ) (v : Verdict) (ok : Bool) (asked : ok ≡ is_accepted v) where
  module _ (fraction : Float) where
    nothing_told : (r : ReadingAnswer) → r ≡ record { verdict = v; reading = no_reading; over = 0; under = 0 } → not ok ≡ true
        → r ≡ reading_answer v k g key fraction
    nothing_told r er h =
        let n = turned_back_lem v ok asked h in
        er ∙ rw (refused_leaves v (one_reading k g key fraction) no_reading n, refused_leaves v (over_of k g key) 0 n, refused_leaves v (under_of k g key) 0 n) refl

    all_told : (r : ReadingAnswer) (e : Estimated) → e ≡ estimate_of k g key fraction
        → r ≡ record { verdict = v; reading = e.reading; over = e.over; under = e.under } → not ok ≡ false
        → r ≡ reading_answer v k g key fraction
    all_told r e ee er h = er ∙ rw (ee, let_pass v ok asked h) refl

  -- by the clock's fraction
  module _ (ev : v ≡ read_verdict k key g) where
    same_call : reading_answer v k g key (fraction_of k.clock) ≡ read_call k key g
    unfolding read_call
    same_call = ap (λ (w : Verdict). reading_answer w k g key (fraction_of k.clock)) ev

    pub read_refused : (r : ReadingAnswer) → r ≡ record { verdict = v; reading = no_reading; over = 0; under = 0 } → not ok ≡ true → r ≡ read_call k key g
    read_refused r er h = nothing_told (fraction_of k.clock) r er h ∙ same_call

    pub mean_refused : not ok ≡ true → record { verdict = v; mean = 0 } ≡ mean_call k key g
    unfolding mean_call
    mean_refused h =
        rw (← ev) (ap (λ (m : ℕ). record { verdict = v; mean = m }) (sym (refused_leaves v (mean_of k g key) 0 (turned_back_lem v ok asked h))))

    module _ (h : not ok ≡ false) where
      pub read_readable : Readable k key g
      read_readable = readable k key g (sym ev ∙ let_pass v ok asked h)

      pub read_told : (fraction : Float) (e : Estimated) (r : ReadingAnswer) → fraction ≡ fraction_of k.clock → e ≡ estimate_of k g key fraction
          → r ≡ record { verdict = v; reading = e.reading; over = e.over; under = e.under } → r ≡ read_call k key g
      read_told fraction e r ef ee er = all_told (fraction_of k.clock) r e (ee ∙ rw ef) er h ∙ same_call

      pub mean_told_lem : (mean : ℕ) → mean ≡ mean_of k g key → record { verdict = v; mean = mean } ≡ mean_call k key g
      unfolding mean_call
      mean_told_lem mean em = rw (← ev, let_pass v ok asked h, em) refl

  -- by a given one
  module _ (fraction : Float) (ev : v ≡ read_with_verdict k key fraction g) where
    same_with : reading_answer v k g key fraction ≡ read_with_call k key fraction g
    unfolding read_with_call
    same_with = ap (λ (w : Verdict). reading_answer w k g key fraction) ev

    pub read_with_refused : (r : ReadingAnswer) → r ≡ record { verdict = v; reading = no_reading; over = 0; under = 0 } → not ok ≡ true
        → r ≡ read_with_call k key fraction g
    read_with_refused r er h = nothing_told fraction r er h ∙ same_with

    pub read_with_readable : not ok ≡ false → Readable k key g
    read_with_readable h = readable_with k key g fraction (sym ev ∙ let_pass v ok asked h)

    pub read_with_told : (e : Estimated) (r : ReadingAnswer) → e ≡ estimate_of k g key fraction
        → r ≡ record { verdict = v; reading = e.reading; over = e.over; under = e.under }
        → not ok ≡ false → r ≡ read_with_call k key fraction g
    read_with_told e r ee er h = all_told fraction r e ee er h ∙ same_with
