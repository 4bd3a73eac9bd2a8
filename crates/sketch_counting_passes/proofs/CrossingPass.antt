-- Cells cross in place, from the front: a pass over equal pieces, each of which was judged before the pass began. Assumes nothing.
use Prim.Native.Nat.{ℕ, ◌+◌, ◌-◌, ◌*◌, ◌^◌, ◌≤◌, ◌<◌}
use mathlib.Core.Path.{◌≡◌, ap}
use mathlib.Core.Bool.{true}
use mathlib.Core.List.{List, ◌++◌}
use native.Mathlib.Omega.{arith}
use native.Mathlib.Nat.{zero-mul, add-mul}
use lib.ListN.{length, take, drop}
use Rattle.laws.specs.Steps.{Step}
use Rattle.laws.proofs.PassLaws.{Going, going_begin, going_on, going_piece, going_length, going_end}
use Rattle.cell.specs.declared.Drawn as cell
use Rattle.cell.specs.Cell.{depth_of, sound_of}
use Rattle.cell.specs.Crossing.{cross_of}
use Rattle.cell.specs.Workers.{Fit, step_of}
use Rattle.cell.proofs.CrossingLaws.{crossed_leaves}
use Rattle.sketch.specs.Workers.{SoundCells, pass_of}
use Rattle.sketch_counting_passes.specs.Workers.{cross_piece, cross_cells, passed}

-- the cells before this one have crossed
abbrev pub Crossing : ℕ → ℕ → ℕ → ℕ → ℕ → List ℕ → ℕ → List ℕ → ℕ → ℕ → ℕ → ℕ → ℕ → Type 0
Crossing t c count n crossed g₀ σ₀ g σ drawn lost start index =
    Going (cross_piece t c n crossed) (depth_of t) 4099 1 count g₀ σ₀ g σ drawn lost start index

module _ (t c count n crossed : ℕ) (g₀ : List ℕ) (σ₀ d : ℕ) where
  -- the piece of the next index begins where this one ends
  pub crossing_on : (g : List ℕ) (σ drawn lost i : ℕ) → Crossing t c count n crossed g₀ σ₀ g σ drawn lost (i * d) i → i < count → d ≡ depth_of t
      → (ys : List ℕ) (r : cell.Drawn) (x : ℕ) → x ≡ r.draws → length ys ≡ length (take (i * d + d - i * d) (drop (i * d) g))
      → step_of ys r ≡ cross_of t c n crossed (take (i * d + d - i * d) (drop (i * d) g)) σ → r.draws ≤ 4099 → r.lost ≤ 1
      → Crossing t c count n crossed g₀ σ₀ (take (i * d) g ++ (ys ++ drop (i * d + d - i * d) (drop (i * d) g))) r.state (drawn + x) (lost + r.lost)
      ((i + 1) * d) (i + 1)
  crossing_on g σ drawn lost i w more ed ys r x ex long e few light =
      let next : (i + 1) * d ≡ i * d + d = omega (arith, add-mul i 1 d) in
      rw (next, ex)
      (going_on (cross_piece t c n crossed) (depth_of t) 4099 1 count g₀ σ₀ g σ drawn lost (i * d) i w more d ed ys r.state r.draws r.lost long e few light)

module _ (t c count n crossed : ℕ) (g₀ : List ℕ) (σ₀ : ℕ) (g : List ℕ) (σ drawn lost a i : ℕ)
    (w : Crossing t c count n crossed g₀ σ₀ g σ drawn lost a i) where
  pub crossing_end : (o : ℕ) → o ≡ lost → count ≤ i → pass_of g (passed σ drawn o) ≡ cross_cells t c count n crossed g₀ σ₀
  crossing_end o eo h = rw eo (going_end (cross_piece t c n crossed) (depth_of t) 4099 1 count g₀ σ₀ g σ drawn lost a i w h)

  module _ (ok : SoundCells t c count g₀) (more : i < count) where
    module _ (d : ℕ) (ed : d ≡ depth_of t) where
      piece_sound : sound_of t c (take (a + d - a) (drop a g)) ≡ true
      piece_sound = rw (going_piece (cross_piece t c n crossed) (depth_of t) 4099 1 count g₀ σ₀ g σ drawn lost a i w more d ed) (ok.sound i more)

      piece_fit : Fit t c (length (take (a + d - a) (drop a g)))
      piece_fit = rw (going_length (cross_piece t c n crossed) (depth_of t) 4099 1 count g₀ σ₀ g σ drawn lost a i w more d ed) ok.fit

      -- a crossing loses one unit at the most
      pub piece_light : (ys : List ℕ) (o : cell.Drawn) → step_of ys o ≡ cross_of t c n crossed (take (a + d - a) (drop a g)) σ → o.lost ≤ 1
      piece_light ys o e =
          let b = take (a + d - a) (drop a g) in
          omega (arith, ap (λ (s : Step). s.lost) e, (crossed_leaves t c n crossed b σ piece_fit piece_sound).lost)

    pub loss_room : (x : ℕ) → x ≤ 1 → lost + x < 2 ^ 32
    loss_room x h = omega (arith, w.light, ok.few)

pub few_each : (t x : ℕ) → t ≤ 4096 → x ≤ t + 3 → x ≤ 4099
few_each t x h l = omega arith
