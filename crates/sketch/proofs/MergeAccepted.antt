-- What an accepted merge says of both sketches: each cause of the table, denied. Assumes nothing.
use Prim.Native.Nat.{ℕ}
use mathlib.Core.Path.{◌≡◌, refl, sym}
use mathlib.Core.Bool.{Bool, true, false, not, cond, ◌&&◌, true≢false}
use mathlib.Core.List.{List}
use lib.Dec.{leb, eqb}
use lib.ListN.{length}
use borrow.Author.Tests.{eqb-true, not-false}
use Rattle.refusal.specs.declared.Verdict.{Verdict}
use Rattle.refusal.specs.declared.Verdict.TheVariants.{Accepted, Refused, Unsound}
use Rattle.refusal.proofs.VerdictLaws.{not_refused}
use Rattle.refusal.proofs.GateLaws.{both_accepted, gate_passed}
use Rattle.clock.specs.Clock.{n_of, same_frame}
use Rattle.sketch.specs.declared.MicroCm.{MicroCm}
use Rattle.sketch.specs.Sketch.{cells_of, all_cells}
use Rattle.sketch.specs.Refusals.{refuse_unsound, sketch_verdict, lower_of, same_shape, merge_verdict, refuse_pair}
use Rattle.sketch.specs.Workers.{Ready, Judged, SoundCells}
use Rattle.sketch.proofs.JudgedLaws.{sound_cells}
use Rattle.sketch.proofs.ReadyLaws.{ready_of}
use Rattle.sketch.proofs.SketchGates.{unsound_gate}

pub lower_both : (first second : Verdict) → lower_of first second ≡ Accepted → (first ≡ Accepted) × (second ≡ Accepted)
lower_both Accepted second e = (refl, e)
lower_both (Refused k) Accepted e = (e, refl)
lower_both (Refused k) (Refused j) e = by (leb k j) e
  where
    by : (x : Bool) → cond x (Refused k) (Refused j) ≡ Accepted → (Refused k ≡ Accepted) × (Refused j ≡ Accepted)
    by true q = (q, cc)
    by false q = (cc, q)
lower_both (Refused k) (Unsound j) e = by (leb k 14) e
  where
    by : (x : Bool) → cond x (Refused k) (Unsound j) ≡ Accepted → (Refused k ≡ Accepted) × (Unsound j ≡ Accepted)
    by true q = (q, cc)
    by false q = (cc, q)
lower_both (Unsound i) Accepted e = (e, refl)
lower_both (Unsound i) (Refused j) e = by (leb 14 j) e
  where
    by : (x : Bool) → cond x (Unsound i) (Refused j) ≡ Accepted → (Unsound i ≡ Accepted) × (Refused j ≡ Accepted)
    by true q = (q, cc)
    by false q = (cc, q)
lower_both (Unsound i) (Unsound j) e = (cc, cc)

-- a test of four parts holds in each
all_four : (a b c d : Bool) → a && b && c && d ≡ true → (a ≡ true) × (b ≡ true) × (c ≡ true) × (d ≡ true)
all_four true true true d e = (refl, refl, refl, e)
all_four true true false d e = absurd (true≢false (sym e))
all_four true false c d e = absurd (true≢false (sym e))
all_four false b c d e = absurd (true≢false (sym e))

-- the same shape is the same rows, cols, t and c
shape_parts : (k k' : MicroCm) → same_shape k k' ≡ true
    → (k.rows ≡ k'.rows) × (k.cols ≡ k'.cols) × (k.params.t ≡ k'.params.t) × (k.params.c ≡ k'.params.c)
shape_parts k k' e =
    let p = all_four (eqb k.rows k'.rows) (eqb k.cols k'.cols) (eqb k.params.t k'.params.t) (eqb k.params.c k'.params.c) e in
    (eqb-true _ _ p.0, eqb-true _ _ p.1, eqb-true _ _ p.2, eqb-true _ _ p.3)

module _ (k : MicroCm) (g : List ℕ) (k' : MicroCm) (g' : List ℕ) (e : merge_verdict k g k' g' ≡ Accepted) where
  abbrev cells : Verdict
  cells = refuse_unsound k g (all_cells k) (refuse_unsound k' g' (all_cells k') Accepted)

  settled : (lower_of (sketch_verdict k g) (sketch_verdict k' g') ≡ Accepted) × (refuse_pair k k' cells ≡ Accepted)
  settled = both_accepted (lower_of (sketch_verdict k g) (sketch_verdict k' g')) _ e

  either : (sketch_verdict k g ≡ Accepted) × (sketch_verdict k' g' ≡ Accepted)
  either = lower_both (sketch_verdict k g) (sketch_verdict k' g') settled.0

  sounded : Judged k g (all_cells k) × Judged k' g' (all_cells k')
  sounded =
      let ten = not_refused 10 (not (same_shape k k')) _ settled.1 in
      let eleven = not_refused 11 (not (same_frame k.clock k'.clock)) _ ten.1 in
      let twelve = not_refused 12 (not (eqb (n_of k.clock) (n_of k'.clock))) cells eleven.1 in
      gate_passed (refuse_unsound k g (all_cells k)) (unsound_gate k g (all_cells k)) _ twelve.1

  alike : (k.rows ≡ k'.rows) × (k.cols ≡ k'.cols) × (k.params.t ≡ k'.params.t) × (k.params.c ≡ k'.params.c)
  alike = shape_parts k k' (not-false _ (not_refused 10 (not (same_shape k k')) _ settled.1).0)

  pub accepted_ready : Ready k (length g)
  accepted_ready = ready_of k g either.0

  pub accepted_judged : Judged k g (all_cells k)
  accepted_judged = sounded.0

  pub accepted_other : SoundCells k.params.t k.params.c (cells_of k) g'
  accepted_other =
      let rows = alike.0 in
      let cols = alike.1 in
      let t = alike.2 in
      let c = alike.3 in
      rw (rows, cols, t, c) (sound_cells k' g' (ready_of k' g' either.1) sounded.1)
