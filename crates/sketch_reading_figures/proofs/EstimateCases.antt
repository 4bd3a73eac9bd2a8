-- The two ways out of an estimate, in the form in which the code comes to them. Assumes nothing.
use Prim.Native.Nat.{ℕ, ◌-◌, ◌≤◌, ◌<◌}
use mathlib.Core.Path.{◌≡◌, refl, ◌∙◌}
use mathlib.Core.List.{List}
use native.Mathlib.Omega.{arith}
use lib.Ieee.{Float}
use Rattle.clock.specs.Clock.{n_of}
use Rattle.sketch.specs.declared.MicroCm.{MicroCm}
use Rattle.sketch_reading_figures.specs.declared.worker.Exact.{Exact}
use Rattle.sketch_reading_figures.specs.declared.worker.Estimated.{Estimated}
use Rattle.sketch.specs.Figures.{least_in, under_of, oldest_of}
use Rattle.sketch_reading_figures.specs.Workers.{exactly, young_estimate, aged_estimate, estimate_of}
use Rattle.sketch.proofs.FigureLaws.{over_young, over_aged, linear_young, linear_aged}

module _ (k : MicroCm) (g key : List ℕ) (n t : ℕ) (en : n ≡ n_of k.clock) (et : t ≡ k.params.t) (some : 1 ≤ k.params.t) (u : Exact)
    (eu : u ≡ exactly (under_of k g key))
  where
    pub young_is : (fraction : Float) (r : Estimated) → n < t → r ≡ young_estimate u fraction → r ≡ estimate_of k g key fraction
    young_is fraction r h e =
        let h' : n_of k.clock < k.params.t = omega arith in
        e ∙ rw (eu, over_young k g key some h', linear_young k g key some fraction h') refl

    pub old_is : (oldest : ℕ) (fraction : Float) (r : Estimated) → t ≤ n → oldest ≡ least_in k g key (n - t)
        → r ≡ aged_estimate u.whole oldest fraction → r ≡ estimate_of k g key fraction
    old_is oldest fraction r h e q =
        let h' : k.params.t ≤ n_of k.clock = omega arith in
        let o : oldest ≡ oldest_of k g key = e ∙ rw (en, et) refl in
        q ∙ rw (eu, o, over_aged k g key some h', linear_aged k g key some fraction h') refl
