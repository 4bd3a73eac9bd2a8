-- The words of a call are the core's verdict, told; so what is promised of the verdict is promised of them. Assumes nothing.
use Prim.Native.Nat.{ℕ}
use mathlib.Core.Path.{◌≡◌, refl, sym}
use mathlib.Core.Bool.{Bool, true, false, true≢false}
use mathlib.Core.List.{List}
use native.Mathlib.Omega.{arith}
use Rattle.refusal.specs.declared.Verdict.TheVariants.{Accepted}
use Rattle.refusal.specs.Refusals.{number_of, is_accepted}
use Rattle.refusal.specs.Causes.{applies}
use Rattle.refusal.proofs.CauseLaws.{lowest_told}
use Rattle.refusal.proofs.VerdictLaws.{accepted_is}
use Rattle.cell.proofs.NamedLaws.{cell_names}
use Rattle.sketch.specs.declared.MicroCm.{MicroCm}
use Rattle.sketch.specs.declared.Finding.{Finding}
use Rattle.sketch.specs.declared.Finding.TheVariants.{Sound, Unsound}
use Rattle.sketch.specs.Refusals.{sketch_verdict, audit_call}
use Rattle.sketch.specs.Causes.{sketch_causes}
use Rattle.sketch.specs.Named.{Printout}
use Rattle.sketch.proofs.CauseTheorems.{sketch_calls}
use Rattle.sketch.proofs.NamedLaws.{sketch_names}
use Rattle.store.proofs.NamedLaws.{store_names}
use Rattle.codes.proofs.NamedLaws.{code_names}
use Rattle.edge_values.specs.Edge.{params_of, sketch_of, watch_of, found_of}
use Rattle.edge.specs.Named.{Found, EdgeNames}

-- THE AUDIT: 0 is the number of an accepted call alone
accepted_by_0 : (k : MicroCm) (g : List ℕ) → number_of (sketch_verdict k g) ≡ 0 → sketch_verdict k g ≡ Accepted
unfolding applies
accepted_by_0 k g e = by (is_accepted (sketch_verdict k g)) refl
  where
    by : (a : Bool) → is_accepted (sketch_verdict k g) ≡ a → sketch_verdict k g ≡ Accepted
    by true q = accepted_is _ q
    by false q =
        let told : applies 0 (sketch_causes k g) ≡ true = rw e at ((lowest_told _ _ (sketch_causes k g) (sketch_calls.audit k g)).told_applies q) in
        absurd (true≢false (sym told))

found : (k : MicroCm) (g : List ℕ) (f : Finding) → Printout k g f → Found k g (found_of f)
unfolding found_of
found k g Sound p = record { clear = λ e. p.clear refl; named = λ e. absurd (omega (arith, e)) }
found k g (Unsound j) p = record { clear = λ e. absurd (omega (arith, e)); named = λ e. p.named j refl }

pub edge_names : EdgeNames
unfolding audit_call
edge_names = record {
  update = λ w key g. (sketch_names.update (sketch_of w) key g).keeps.names;
  update_at = λ w key time g. (sketch_names.update_at (sketch_of w) key time g).keeps.names;
  advance_to = λ w time g. (sketch_names.advance (sketch_of w) time g).keeps.names;
  estimate = λ w key g. (sketch_names.read (sketch_of w) key g).keeps.names;
  estimate_with = λ w key fraction g. (sketch_names.read_with (sketch_of w) key fraction g).keeps.names;
  mean = λ w key g. (sketch_names.mean (sketch_of w) key g).keeps.names;
  max_zoom_lem = λ w g. (sketch_names.highest (sketch_of w) g).keeps.names;
  audit = λ w g e. found (sketch_of w) g _ (sketch_names.audit (sketch_of w) g (accepted_by_0 (sketch_of w) g e));
  save = λ w g store. (store_names.save (sketch_of w) g store).keeps.names;
  load = λ w p g store. store_names.load_names g store;
  merge = λ w g other g'. (sketch_names.merge (sketch_of w) g (sketch_of other) g').names;
  ask = λ w p columns limits g list long. (code_names.ask (sketch_of w) (watch_of p) columns limits g list long).keeps.names;
  insert = λ t c n b state. (cell_names.insert (params_of t c) n b state).keeps.names;
  enter_sub_window = λ t c n crossed b state. (cell_names.cross (params_of t c) n crossed b state).keeps.names;
  merge_cells = λ t c n b b' state. (cell_names.merge (params_of t c) n b b' state).names;
}
