-- The highest zoom: the largest of the cells before this one is kept. Assumes nothing.
use Prim.Native.Nat.{ℕ, zero, suc, ◌+◌, ◌-◌, ◌≤◌, ◌<◌, max}
use mathlib.Core.Path.{◌≡◌, refl, sym, ap, ◌∙◌}
use mathlib.Core.Bool.{Bool, true, false, not}
use mathlib.Core.List.{List}
use native.Mathlib.Omega.{arith}
use lib.ListN.{length}
use Rattle.laws.specs.Sums.{largest}
use Rattle.refusal.specs.declared.Verdict.{Verdict}
use Rattle.refusal.specs.declared.Verdict.TheVariants.{Accepted}
use Rattle.refusal.specs.Refusals.{is_accepted}
use Rattle.refusal.proofs.VerdictLaws.{refused_leaves, turned_back_lem, let_pass}
use Rattle.refusal.proofs.GateLaws.{gate_passed}
use Rattle.cell.specs.Cell.{zoom_of}
use Rattle.sketch.specs.declared.MicroCm.{MicroCm}
use Rattle.sketch.specs.Sketch.{cells_of, cell_of, all_cells}
use Rattle.sketch.specs.Audit.{highest_zoom}
use Rattle.sketch.specs.Refusals.{refuse_sketch, refuse_unsound, sketch_verdict, highest_verdict, highest_call}
use Rattle.sketch.specs.Workers.{Ready}
use Rattle.sketch.proofs.SketchGates.{sketch_gate}
use Rattle.sketch.proofs.ReadyLaws.{ready_of}
use Rattle.sketch.proofs.AddressLaws.{product_le}

largest_next : (j : ℕ) (f : ℕ → ℕ) → 1 ≤ j → largest (j + 1 - 1) f ≡ max (largest (j - 1) f) (f j)
unfolding largest
largest_next zero f h = absurd (omega arith)
largest_next (suc j) f h =
    let e : suc j + 1 - 1 ≡ suc j = omega arith in
    let q : suc j - 1 ≡ j = omega arith in
    rw (e, q) refl

module _ (k : MicroCm) (g : List ℕ) where
  abbrev zoom_at : ℕ → ℕ
  zoom_at j = zoom_of k.params.t (cell_of k g j)

  -- THE CELLS before this one
  pub cells_some : (size : ℕ) → Ready k size → 0 < cells_of k
  cells_some size r = omega (arith, product_le 1 1 k.rows k.cols r.rows_low (omega (arith, r.cols_low)))

  pub record Highest (count index value : ℕ) : Type 0 where
    pub is : value ≡ largest (index - 1) zoom_at
    pub some : 1 ≤ index
    pub below : index ≤ count

  pub highest_begin : (size count value : ℕ) → Ready k size → count ≡ cells_of k → value ≡ zoom_at 0 → Highest count 1 value
  unfolding largest
  highest_begin size count value r ec e =
      record { is = e; some = omega arith; below = omega (arith, ec, cells_some size r) }

  module _ (count index value : ℕ) (w : Highest count index value) where
    pub highest_on : (zoom larger : ℕ) → index < count → zoom ≡ zoom_at index → larger ≡ max value zoom → Highest count (index + 1) larger
    highest_on zoom larger h e l =
        record { is = l ∙ rw (w.is, e) (sym (largest_next index zoom_at w.some)); some = omega arith; below = omega arith }

    pub highest_end : count ≡ cells_of k → count ≤ index → value ≡ highest_zoom k g
    unfolding highest_zoom
    highest_end ec h =
        let e : index ≡ cells_of k = omega (arith, w.below) in
        w.is ∙ rw e refl

  -- THE VERDICT
  module _ (v : Verdict) (ev : v ≡ sketch_verdict k g) (ok : Bool) (asked : ok ≡ is_accepted v) where
    module _ (a : not ok ≡ false) where
      pub passed_ready : Ready k (length g)
      passed_ready = ready_of k g (sym ev ∙ let_pass v ok asked a)

  -- THE CALL
  module _ (v : Verdict) (ev : v ≡ highest_verdict k g) (ok : Bool) (asked : ok ≡ is_accepted v) where
    pub zoom_untold : not ok ≡ true → record { verdict = v; zoom = 0 } ≡ highest_call k g
    unfolding highest_call
    zoom_untold n = rw (← ev) (ap (λ (z : ℕ). record { verdict = v; zoom = z }) (sym (refused_leaves v (highest_zoom k g) 0 (turned_back_lem v ok asked n))))

    module _ (a : not ok ≡ false) where
      pub zoom_ready : Ready k (length g)
      zoom_ready = ready_of k g (gate_passed (refuse_sketch k g) (sketch_gate k g) (refuse_unsound k g (all_cells k) Accepted) (sym ev ∙ let_pass v ok asked a)).0

      pub zoom_told_lem : (z : ℕ) → z ≡ highest_zoom k g → record { verdict = v; zoom = z } ≡ highest_call k g
      unfolding highest_call
      zoom_told_lem z ez = rw (← ev, let_pass v ok asked a, ez) refl
