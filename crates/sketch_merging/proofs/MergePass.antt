-- Two grids side by side, cell by cell in place, from the front: each cell of both was judged before the pass began. Assumes nothing.
use Prim.Native.Nat.{ℕ, ◌+◌, ◌-◌, ◌*◌, ◌^◌, ◌≤◌, ◌<◌}
use mathlib.Core.Path.{◌≡◌, ap, ◌∙◌}
use mathlib.Core.List.{List}
use native.Mathlib.Omega.{arith}
use native.Mathlib.Nat.{mul-le-mul}
use lib.ListN.{length, take, drop}
use Rattle.laws.specs.Parts.{part}
use Rattle.laws.specs.Steps.{Step}
use Rattle.laws.specs.Passes.{each_of}
use Rattle.laws.proofs.PartLaws.{part_length, piece_room}
use Rattle.laws.proofs.PassLaws.{Going, going_piece, going_length, going_beside}
use Rattle.cell.specs.declared.Drawn as cell
use Rattle.cell.specs.Cell.{depth_of, max_zoom}
use Rattle.cell.specs.Merge.{merge_of}
use Rattle.cell.specs.Workers.{step_of}
use Rattle.cell_merging.specs.Workers.{Pair}
use Rattle.cell.proofs.PowerLaws.{max_zoom_limit}
use Rattle.cell.proofs.MergeLaws.{merged_leaves}
use Rattle.sketch.specs.declared.MicroCm.{MicroCm}
use Rattle.sketch.specs.declared.Passed.{Passed}
use Rattle.sketch.specs.Sketch.{cells_of}
use Rattle.sketch.specs.Merge.{merge_each}
use Rattle.sketch.specs.Workers.{SoundCells, pass_of}
use Rattle.sketch_merging.specs.Workers.{merge_piece}

-- a cell draws at most max_zoom times a pixel
pub pair_few : (t c n : ℕ) (b src : List ℕ) (σ : ℕ) → Pair t c b src → (merge_of t c n b src σ).draws ≤ 127038
pair_few t c n b src σ p =
    let m = (merged_leaves t c n b src σ p.fit p.fit_src p.sound p.sound_src).draws in
    let pixels : t + 2 ≤ 4098 = omega (arith, p.fit.t_high) in
    let most : (t + 2) * max_zoom c ≤ 4098 * 31 = mul-le-mul pixels (max_zoom_limit c) in
    omega arith

-- and what it loses is counted in four bytes
pub pair_light : (x : ℕ) → x < 2 ^ 32 → x ≤ 4294967295
pair_light x h = omega arith

module _ (t c n count : ℕ) (other g₀ : List ℕ) (σ₀ : ℕ) (ok : SoundCells t c count g₀) (ok' : SoundCells t c count other) (g : List ℕ) (σ drawn lost a i : ℕ)
    (w : Going (merge_piece t c n other) (depth_of t) 127038 4294967295 count g₀ σ₀ g σ drawn lost a i) (more : i < count) where
  module _ (d : ℕ) (ed : d ≡ depth_of t) where
    other_is : take (a + d - a) (drop a other) ≡ part (i * depth_of t) (depth_of t) other
    other_is = going_beside (merge_piece t c n other) (depth_of t) 127038 4294967295 count g₀ σ₀ g σ drawn lost a i w more d ed other

    other_long : i * depth_of t + depth_of t ≤ length other
    other_long = piece_room (depth_of t) count i (length other) more ok'.room

    pub pair_is : Pair t c (take (a + d - a) (drop a g)) (take (a + d - a) (drop a other))
    pair_is = record {
      fit = rw (going_length (merge_piece t c n other) (depth_of t) 127038 4294967295 count g₀ σ₀ g σ drawn lost a i w more d ed) ok.fit;
      fit_src = rw (other_is, part_length (i * depth_of t) (depth_of t) other other_long) ok.fit;
      sound = rw (going_piece (merge_piece t c n other) (depth_of t) 127038 4294967295 count g₀ σ₀ g σ drawn lost a i w more d ed) (ok.sound i more);
      sound_src = rw other_is (ok'.sound i more);
    }

    module _ (ys : List ℕ) (r : cell.Drawn) (e : step_of ys r ≡ merge_of t c n (take (a + d - a) (drop a g)) (take (a + d - a) (drop a other)) σ) where
      pub pair_drew : r.draws ≤ 127038
      pair_drew = rw (← (ap (λ (s : Step). s.draws) e)) at (pair_few t c n (take (a + d - a) (drop a g)) (take (a + d - a) (drop a other)) σ pair_is)

      pub pair_step : step_of ys r ≡ merge_piece t c n other i (take (a + d - a) (drop a g)) σ
      pair_step = e ∙ rw other_is

pub merged_all : (k : MicroCm) (n : ℕ) (other g l : List ℕ) (σ : ℕ) (r : Passed)
    → pass_of l r ≡ each_of (merge_piece k.params.t k.params.c n other) (depth_of k.params.t) 0 (cells_of k) g σ → pass_of l r ≡ merge_each k n other g σ
unfolding merge_each
merged_all k n other g l σ r e = e
