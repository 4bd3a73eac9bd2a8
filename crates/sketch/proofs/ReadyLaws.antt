-- What accepted verdicts say of a sketch and a key: each cause of the table, denied. Assumes nothing.
use Prim.Native.Nat.{ℕ}
use mathlib.Core.Path.{◌≡◌, refl, sym, ◌∙◌}
use mathlib.Core.Bool.{Bool, true, false, not, true≢false}
use mathlib.Core.List.{List}
use lib.Dec.{eqb}
use lib.ListN.{length}
use borrow.Author.Tests.{eq-eqb, eqb-true, not-false}
use Rattle.refusal.specs.declared.Verdict.{Verdict}
use Rattle.refusal.specs.declared.Verdict.TheVariants.{Accepted, Refused}
use Rattle.refusal.specs.Refusals.{is_accepted}
use Rattle.refusal.proofs.VerdictLaws.{turned_back_lem, let_pass, not_refused}
use Rattle.refusal.proofs.GateLaws.{gate_open, gate_shut, gate_passed}
use Rattle.rounding.specs.Refusals.{refuse_state}
use Rattle.sketch.specs.declared.MicroCm.{MicroCm}
use Rattle.sketch.specs.Sketch.{grid_bytes}
use Rattle.sketch.specs.Refusals.{key_fits, refuse_grid, refuse_key, refuse_sketch, sketch_verdict}
use Rattle.sketch.specs.Workers.{Ready}
use Rattle.sketch.proofs.SettingsLaws.{good_settings}
use Rattle.sketch.proofs.SketchGates.{settings_of, settings_gate, sketch_gate}

-- a sketch with its grid
module _ (k : MicroCm) (g : List ℕ) (e : sketch_verdict k g ≡ Accepted) where
  past_settings : (settings_of k Accepted ≡ Accepted) × (refuse_state k.rounding.state (refuse_grid k g Accepted) ≡ Accepted)
  past_settings = gate_passed (settings_of k) (settings_gate k) (refuse_state k.rounding.state (refuse_grid k g Accepted)) e

  past_state : (eqb k.rounding.state 0 ≡ false) × (refuse_grid k g Accepted ≡ Accepted)
  past_state = not_refused 5 (eqb k.rounding.state 0) (refuse_grid k g Accepted) past_settings.1

  pub alive_of : k.rounding.state ≡ 0 → ⊥
  alive_of z = true≢false (sym (eq-eqb _ _ z) ∙ past_state.0)

  pub ready_of : Ready k (length g)
  ready_of =
      let s = good_settings k.rows k.cols k.params k.clock past_settings.0 in
      record {
        fit = s.fit;
        timed = s.timed;
        rows_low = s.grid.rows_low;
        rows_high = s.grid.rows_high;
        cols_low = s.grid.cols_low;
        cols_high = s.grid.cols_high;
        size_is = eqb-true _ _ (not-false _ (not_refused 6 (not (eqb (length g) (grid_bytes k))) Accepted past_state.1).0);
      }

-- a key beside it
pub keyed_ready : (k : MicroCm) (key g : List ℕ) → refuse_sketch k g (refuse_key k key Accepted) ≡ Accepted → Ready k (length g) × (key_fits k key ≡ true)
keyed_ready k key g e =
    let p = gate_passed (refuse_sketch k g) (sketch_gate k g) (refuse_key k key Accepted) e in
    (ready_of k g p.0, not-false _ (not_refused 7 (not (key_fits k key)) Accepted p.1).0)

-- the ways through the judge of both
module _ (k : MicroCm) (key g : List ℕ) (v : Verdict) (ev : v ≡ sketch_verdict k g) (ok : Bool) (asked : ok ≡ is_accepted v) where
  pub keyed_refused : not ok ≡ true → v ≡ refuse_sketch k g (refuse_key k key Accepted)
  keyed_refused n = sym (gate_shut (refuse_sketch k g) (sketch_gate k g) _ v ev (turned_back_lem v ok asked n))

  module _ (a : not ok ≡ false) (fits : Bool) (ef : fits ≡ key_fits k key) where
    past_sketch : refuse_sketch k g (refuse_key k key Accepted) ≡ refuse_key k key Accepted
    past_sketch = gate_open (refuse_sketch k g) (sketch_gate k g) (refuse_key k key Accepted) (sym ev ∙ let_pass v ok asked a)

    pub keyed_accepted : fits ≡ true → Accepted ≡ refuse_sketch k g (refuse_key k key Accepted)
    keyed_accepted h = sym (past_sketch ∙ rw (← ef, h) refl)

    pub key_refused : fits ≡ false → Refused 7 ≡ refuse_sketch k g (refuse_key k key Accepted)
    key_refused h = sym (past_sketch ∙ rw (← ef, h) refl)
