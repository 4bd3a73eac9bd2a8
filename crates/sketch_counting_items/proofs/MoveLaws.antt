-- A move as the code makes it: by 0 a crossing does nothing, so cells cross only where n rose. Assumes nothing.
use Prim.Native.Nat.{ℕ, ◌-◌}
use mathlib.Core.Path.{◌≡◌, refl, sym}
use mathlib.Core.Bool.{Bool, true, false, not}
use mathlib.Core.List.{List}
use native.Mathlib.Omega.{arith}
use lib.Dec.{eqb}
use borrow.Author.Tests.{eqb-true, not-false}
use Rattle.sketch.specs.declared.MicroCm.{MicroCm}
use Rattle.sketch.specs.declared.Passed.{Passed}
use Rattle.sketch.specs.Sketch.{cells_of, cross_each}
use Rattle.sketch.specs.Workers.{pass_of}
use Rattle.sketch.proofs.GridLaws.{cross_none}
use Rattle.sketch_counting_passes.specs.Workers.{cross_cells}
use Rattle.sketch_counting_items.specs.Workers.{cross_if}

-- the two ways through `moved`
module _ (moves : Bool) (k : MicroCm) (old new : ℕ) (g : List ℕ) (σ : ℕ) where
  pub moves_crossed : moves ≡ true → (l : List ℕ) (r : Passed) → pass_of l r ≡ cross_cells k.params.t k.params.c (cells_of k) new (new - old) g σ
      → pass_of l r ≡ cross_if moves k old new g σ
  unfolding cross_each
  moves_crossed e l r er = rw e er

-- the test that spares a crossing by 0
pub cross_rose : (k : MicroCm) (old new : ℕ) (moves : Bool) → moves ≡ not (eqb new old) → (g : List ℕ) (σ : ℕ)
    → cross_if moves k old new g σ ≡ cross_each k new (new - old) g σ
cross_rose k old new true e g σ = refl
cross_rose k old new false e g σ =
    let same : new ≡ old = eqb-true new old (not-false (eqb new old) (sym e)) in
    let none : new - old ≡ 0 = omega (arith, same) in
    rw none (sym (cross_none k new g σ))
