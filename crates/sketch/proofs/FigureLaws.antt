-- Over is Under and the oldest term, if n ≥ t, and Under below that: the sum reaches one sub-window further back. Assumes nothing.
use Prim.Native.Nat.{ℕ, zero, suc, ◌+◌, ◌-◌, ◌≤◌, ◌<◌, min}
use mathlib.Core.Path.{◌≡◌, refl}
use mathlib.Core.List.{List}
use native.Mathlib.Omega.{arith}
use lib.Ieee.{Float, binary64, add, mul}
use borrow.Author.Tests.{le-leb, lt-leb}
use Rattle.laws.specs.Sums.{total}
use Rattle.laws.specs.Figure.{figure}
use Rattle.clock.specs.Clock.{n_of}
use Rattle.sketch.specs.declared.MicroCm.{MicroCm}
use Rattle.sketch.specs.Figures.{least_back, sum_back, over_of, under_of, oldest_of, linear_of}

total_next : (t : ℕ) (f : ℕ → ℕ) → 1 ≤ t → total t f ≡ total (t - 1) f + f t
unfolding total
total_next zero f h = absurd (omega arith)
total_next (suc t) f h =
    let e : suc t - 1 ≡ t = omega arith in
    rw e refl

module _ (k : MicroCm) (g key : List ℕ) (some : 1 ≤ k.params.t) where
  pub over_young : n_of k.clock < k.params.t → over_of k g key ≡ under_of k g key
  unfolding sum_back
  over_young h =
      let e : min (n_of k.clock) k.params.t ≡ min (n_of k.clock) (k.params.t - 1) = omega arith in
      rw e refl

  pub over_aged : k.params.t ≤ n_of k.clock → over_of k g key ≡ under_of k g key + oldest_of k g key
  unfolding sum_back
  over_aged h =
      let e : min (n_of k.clock) k.params.t ≡ k.params.t = omega arith in
      let q : min (n_of k.clock) (k.params.t - 1) ≡ k.params.t - 1 = omega arith in
      rw (e, q) (total_next k.params.t (least_back k g key) some)

  pub linear_young : (fraction : Float) → n_of k.clock < k.params.t → linear_of k g key fraction ≡ figure (under_of k g key)
  unfolding linear_of
  linear_young fraction h = simp (lt-leb _ _ h)

  pub linear_aged : (fraction : Float) → k.params.t ≤ n_of k.clock
      → linear_of k g key fraction ≡ add binary64 (figure (under_of k g key)) (mul binary64 fraction (figure (oldest_of k g key)))
  unfolding linear_of
  linear_aged fraction h = simp (le-leb _ _ h)
