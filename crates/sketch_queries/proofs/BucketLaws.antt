-- The ways through a bucket lookup: an accepted one has a cell in the grid, and the part that is handed out is that cell. Assumes nothing.
use Prim.Native.Nat.{ℕ, ◌+◌, ◌-◌, ◌*◌, ◌≤◌, ◌<◌}
use mathlib.Core.Path.{◌≡◌, refl, sym, ◌∙◌}
use mathlib.Core.Bool.{Bool, true, false, not, ◌||◌, true≢false}
use mathlib.Core.List.{List, []}
use native.Mathlib.Nat.{add-sub_cancel_left}
use lib.Dec.{leb}
use lib.ListN.{length, take, drop}
use borrow.Author.Tests.{leb-false}
use Rattle.refusal.specs.declared.Verdict.{Verdict}
use Rattle.refusal.specs.declared.Verdict.TheVariants.{Accepted}
use Rattle.refusal.specs.Refusals.{is_accepted, refuse}
use Rattle.refusal.proofs.VerdictLaws.{refused_leaves, turned_back_lem, let_pass, not_refused}
use Rattle.refusal.proofs.GateLaws.{gate_passed}
use Rattle.cell.specs.Cell.{depth_of}
use Rattle.sketch.specs.declared.MicroCm.{MicroCm}
use Rattle.sketch.specs.Sketch.{cell_index, cell_of}
use Rattle.sketch.specs.Refusals.{refuse_sketch, sketch_verdict, bucket_verdict, bucket_call}
use Rattle.sketch.specs.Workers.{Ready}
use Rattle.sketch.proofs.SketchGates.{sketch_gate}
use Rattle.sketch.proofs.ReadyLaws.{ready_of}

neither : (a b : Bool) → a || b ≡ false → (a ≡ false) × (b ≡ false)
neither true b e = absurd (true≢false e)
neither false b e = (refl, e)

module _ (k : MicroCm) (row col : ℕ) (g : List ℕ) where
  abbrev out_of_range : Bool
  out_of_range = leb k.rows row || leb k.cols col

  -- THE PART
  module _ (v : Verdict) (ev : v ≡ bucket_verdict k row col g) (ok : Bool) (asked : ok ≡ is_accepted v) where
    pub bucket_none : not ok ≡ true → [] ≡ bucket_call k row col g
    unfolding bucket_call
    bucket_none n = rw (← ev) (sym (refused_leaves v (cell_of k g (cell_index k row col)) [] (turned_back_lem v ok asked n)))

    module _ (a : not ok ≡ false) where
      both : (sketch_verdict k g ≡ Accepted) × (refuse 7 out_of_range Accepted ≡ Accepted)
      both = gate_passed (refuse_sketch k g) (sketch_gate k g) (refuse 7 out_of_range Accepted) (sym ev ∙ let_pass v ok asked a)

      inside : (leb k.rows row ≡ false) × (leb k.cols col ≡ false)
      inside = neither _ _ (not_refused 7 out_of_range Accepted both.1).0

      pub bucket_ready : Ready k (length g)
      bucket_ready = ready_of k g both.0

      pub bucket_row : row < k.rows
      bucket_row = leb-false _ _ inside.0

      pub bucket_col : col < k.cols
      bucket_col = leb-false _ _ inside.1

      pub bucket_rows : k.rows ≤ 128
      bucket_rows = bucket_ready.rows_high

      pub bucket_cols : k.cols ≤ 65536
      bucket_cols = bucket_ready.cols_high

      pub bucket_is : (index start d : ℕ) → index ≡ cell_index k row col → start ≡ index * depth_of k.params.t → d ≡ depth_of k.params.t
          → take (start + d - start) (drop start g) ≡ bucket_call k row col g
      unfolding bucket_call
      bucket_is index start d ei es ed = rw (← ev, let_pass v ok asked a, es, ei, ed, add-sub_cancel_left) refl
