-- What an accepted setting and an asking whose cells are looked at say of their numbers: each cause, denied. Assumes nothing.
use Prim.Native.Nat.{ℕ, ◌*◌, ◌≤◌, ◌<◌, min}
use mathlib.Core.Path.{◌≡◌}
use mathlib.Core.Bool.{true, not}
use mathlib.Core.List.{List, [], ◌∷◌, ◌++◌}
use native.Mathlib.Omega.{arith}
use native.Mathlib.Nat.{min-eq_left}
use lib.Dec.{ltb, eqb}
use lib.ListN.{length, take}
use borrow.Author.Tests.{ltb-false, eqb-true, ne_eqb, not-false}
use Rattle.laws.proofs.ChoiceLaws.{both_hold}
use Rattle.refusal.specs.declared.Verdict.{Verdict}
use Rattle.refusal.specs.declared.Verdict.TheVariants.{Accepted}
use Rattle.refusal.specs.Refusals.{refuse}
use Rattle.refusal.specs.Causes.{refuse_by, first_of}
use Rattle.refusal.proofs.VerdictLaws.{refuse_then, not_refused}
use Rattle.refusal.proofs.GateLaws.{Gate, gate_chain, gate_passed}
use Rattle.sketch.specs.declared.MicroCm.{MicroCm}
use Rattle.sketch.specs.Refusals.{all_below, refuse_sketch, refuse_unsound, sketch_verdict}
use Rattle.sketch.specs.Causes.{sketch_causes}
use Rattle.sketch.specs.Workers.{Ready, Judged}
use Rattle.sketch.proofs.SketchGates.{settings_of, judged, settings_gate, judged_gate, sketch_gate}
use Rattle.sketch.proofs.SettingsLaws.{GoodSettings, good_settings}
use Rattle.sketch.proofs.ReadyLaws.{ready_of}
use Rattle.codes.specs.declared.Watch.{Watch}
use Rattle.codes.specs.Codes.{watched_cells}
use Rattle.codes.specs.Refusals.{codes_fit, kept_fit, bad_codes, foreign_codes, many_codes, short_list, set_verdict, ask_verdict}

-- A LIST THAT IS SET
pub record GoodSet (k : MicroCm) (columns : List ℕ) (count : ℕ) : Type 0 where
  pub settings : GoodSettings k.rows k.cols k.params k.clock
  pub whole : length columns ≡ count * k.rows
  pub below : all_below k.cols columns ≡ true
  pub few : count ≤ 64

pub set_accepted : (k : MicroCm) (columns : List ℕ) (count : ℕ) → set_verdict k columns count ≡ Accepted → GoodSet k columns count
unfolding codes_fit
set_accepted k columns count e =
    let past = gate_passed (judged k) (judged_gate k) (refuse_by (bad_codes k columns count) (refuse_by (many_codes count) Accepted)) e in
    let no7 = not_refused 7 (not (codes_fit k columns count)) (refuse_by (many_codes count) Accepted) past.1 in
    let fit = both_hold (eqb (length columns) (count * k.rows)) (all_below k.cols columns) (not-false _ no7.0) in
    record {
      settings = good_settings k.rows k.cols k.params k.clock (gate_passed (settings_of k) (settings_gate k) _ past.0).0;
      whole = eqb-true _ _ fit.0;
      below = fit.1;
      few = ltb-false 64 count (not_refused 19 (ltb 64 count) Accepted no7.1).0;
    }

-- CODES THAT GO WITH A SKETCH, where there are any
pub kept_fit_lem : (k : MicroCm) (w : Watch) (columns : List ℕ) → kept_fit k w columns ≡ true → 0 < w.count → w.count ≤ 64
    → (w.rows ≡ k.rows) × (all_below k.cols (take (w.count * k.rows) columns) ≡ true)
unfolding kept_fit
kept_fit_lem k w columns e some few =
    let low = all_below k.cols (take (min w.count 64 * k.rows) columns) in
    let fit = both_hold (eqb w.rows k.rows) low (rw (ne_eqb w.count 0 (λ z. omega arith)) at e) in
    (eqb-true _ _ fit.0, rw (min-eq_left few) at fit.1)

-- AN ASKING: what is asked before its cells are
module _ (k : MicroCm) (w : Watch) (columns g : List ℕ) (room : ℕ) where
  abbrev pub asked : Verdict → Verdict
  asked rest = refuse_sketch k g (refuse_by (foreign_codes k w columns) (refuse_by (many_codes w.count) (refuse_by (short_list w.count room) rest)))

  pub asked_gate : Gate asked
  asked_gate =
      let foreign = not (kept_fit k w columns) in
      let many = ltb 64 w.count in
      let short = ltb room w.count in
      gate_chain (refuse_sketch k g) (λ rest. refuse 7 foreign (refuse 19 many (refuse 20 short rest))) (sketch_gate k g)
      (gate_chain (refuse 7 foreign) (λ rest. refuse 19 many (refuse 20 short rest)) (refuse_then 7 foreign)
      (gate_chain (refuse 19 many) (refuse 20 short) (refuse_then 19 many) (refuse_then 20 short)))

  pub record GoodAsk : Type 0 where
    pub good : sketch_verdict k g ≡ Accepted
    pub ready : Ready k (length g)
    pub fit : kept_fit k w columns ≡ true
    pub few : w.count ≤ 64
    pub roomy : w.count ≤ room

  asked_good : asked Accepted ≡ Accepted → GoodAsk
  asked_good e =
      let past = gate_passed (refuse_sketch k g) (sketch_gate k g) _ e in
      let no7 = not_refused 7 (not (kept_fit k w columns)) _ past.1 in
      let no19 = not_refused 19 (ltb 64 w.count) _ no7.1 in
      let no20 = not_refused 20 (ltb room w.count) _ no19.1 in
      record {
        good = past.0;
        ready = ready_of k g past.0;
        fit = not-false _ no7.0;
        few = ltb-false 64 w.count no19.0;
        roomy = ltb-false room w.count no20.0;
      }

  -- ACCEPTED
  pub ask_accepted : ask_verdict k w columns g room ≡ Accepted → GoodAsk × Judged k g (watched_cells k columns w.count)
  ask_accepted e =
      let past = gate_passed asked asked_gate (refuse_unsound k g (watched_cells k columns w.count) Accepted) e in
      (asked_good past.0, past.1)

  -- PAST its first causes
  pub ask_past : first_of (sketch_causes k g ++ foreign_codes k w columns ∷ many_codes w.count ∷ short_list w.count room ∷ []) ≡ Accepted → GoodAsk
  unfolding first_of
  ask_past e = asked_good e
