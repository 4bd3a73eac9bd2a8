-- The ways out of the calls, in the form in which the code comes to them: turned back by the verdict, or accepted and done.
use Prim.Native.Nat.{ℕ, ◌-◌, ◌^◌}
use mathlib.Core.Path.{◌≡◌, refl, sym, ◌∙◌}
use mathlib.Core.Bool.{Bool, true, false, not}
use native.Mathlib.Omega.{arith}
use lib.Ieee.{Float, binary64, of_bits}
use Rattle.laws.specs.Figure.{figure}
use Rattle.laws.proofs.FigureLaws.{zero_is}
use Rattle.refusal.specs.declared.Verdict.{Verdict}
use Rattle.refusal.specs.declared.Verdict.TheVariants.{Accepted, Refused}
use Rattle.refusal.specs.Refusals.{is_accepted, refuse, outside, when_accepted}
use Rattle.refusal.proofs.VerdictLaws.{refused_leaves, turned_back_lem, let_pass, refuse_then}
use Rattle.clock.specs.declared.SubWindowClock.{SubWindowClock}
use Rattle.clock.specs.declared.MovedAnswer.{MovedAnswer}
use Rattle.clock.specs.Clock.{length_of, n_of, fraction_of, crossed_of}
use Rattle.clock.specs.Workers.{GoodLength}
use Rattle.clock.specs.Refusals.{refuse_length, length_verdict, moved_call, n_call, fraction_call}
use Rattle.clock.proofs.CallLaws.{good_length}

module _ (k : SubWindowClock) (v : Verdict) (judged : v ≡ length_verdict k) (ok : Bool) (asked : ok ≡ is_accepted v) where
  pub judged_good : not ok ≡ false → GoodLength k
  judged_good h = good_length k (sym judged ∙ let_pass v ok asked h)

  -- ---- the calls that read
  pub n_refused : not ok ≡ true → record { verdict = v; n = 0 } ≡ n_call k
  unfolding n_call
  n_refused h = rw (← judged, refused_leaves v (n_of k) 0 (turned_back_lem v ok asked h)) refl

  pub n_done : not ok ≡ false → (n : ℕ) → n ≡ n_of k → record { verdict = v; n = n } ≡ n_call k
  unfolding n_call
  n_done h n e = rw (← judged, let_pass v ok asked h, e) refl

  pub fraction_refused : not ok ≡ true → record { verdict = v; fraction = of_bits binary64 0 } ≡ fraction_call k
  unfolding fraction_call
  fraction_refused h = rw (← judged, refused_leaves v (fraction_of k) (figure 0) (turned_back_lem v ok asked h), zero_is) refl

  pub fraction_done : not ok ≡ false → (x : Float) → x ≡ fraction_of k → record { verdict = v; fraction = x } ≡ fraction_call k
  unfolding fraction_call
  fraction_done h x e = rw (← judged, let_pass v ok asked h, e) refl

  -- ---- the calls that move: the kind is judged after the length
  module _ (after : SubWindowClock) (wrong : Bool) where
    abbrev moved : MovedAnswer
    moved = moved_call (refuse_length k (refuse 8 wrong Accepted)) k after

    then_kind : refuse_length k (refuse 8 wrong Accepted) ≡ when_accepted v (refuse 8 wrong Accepted) v
    then_kind = rw judged (refuse_then 3 (outside 1 (2 ^ 53) (length_of k)) (refuse 8 wrong Accepted))

    pub moved_refused : not ok ≡ true → (r : MovedAnswer) → r ≡ record { verdict = v; clock = k; crossed = 0 } → r ≡ moved
    moved_refused h r e =
        let out = turned_back_lem v ok asked h in
        rw (then_kind, refused_leaves v (refuse 8 wrong Accepted) v out, refused_leaves v after k out, refused_leaves v (crossed_of k after) 0 out) e

    module _ (h : not ok ≡ false) where
      on_kind : refuse_length k (refuse 8 wrong Accepted) ≡ refuse 8 wrong Accepted
      on_kind = then_kind ∙ rw (let_pass v ok asked h) refl

      pub kind_refused : wrong ≡ true → (r : MovedAnswer) → r ≡ record { verdict = Refused 8; clock = k; crossed = 0 } → r ≡ moved
      kind_refused w r e = rw (on_kind, w) e

      pub moved_good : length_of after ≡ length_of k → GoodLength after
      moved_good e = let good = judged_good h in record { some = omega (arith, good.some); short = omega (arith, good.short) }

      pub moved_done : wrong ≡ false → (old new : ℕ) → old ≡ n_of k → new ≡ n_of after → record { verdict = v; clock = after; crossed = new - old } ≡ moved
      moved_done w old new o n = rw (on_kind, w, let_pass v ok asked h, o, n) refl
