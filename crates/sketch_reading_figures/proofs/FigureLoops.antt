-- The loop of a reading over the sub-windows, for the sum. What it has found so far. Assumes nothing.
use Prim.Native.Nat.{ℕ, zero, suc, ◌+◌, ◌-◌, ◌*◌, ◌^◌, ◌≤◌, ◌<◌, min}
use mathlib.Core.Path.{◌≡◌, refl, ◌∙◌}
use mathlib.Core.List.{List}
use native.Mathlib.Omega.{arith}
use native.Mathlib.Nat.{sub-zero}
use lib.Ieee.{binary64, add}
use Rattle.laws.specs.Sums.{total}
use Rattle.laws.specs.Figure.{figure}
use Rattle.laws.proofs.FigureLaws.{figure_add}
use Rattle.clock.specs.Clock.{n_of}
use Rattle.sketch.specs.declared.MicroCm.{MicroCm}
use Rattle.sketch_reading_figures.specs.declared.worker.Exact.{Exact}
use Rattle.sketch.specs.Figures.{least_in, least_back, sum_back}
use Rattle.sketch_reading_figures.specs.Workers.{exactly}
use Rattle.sketch_reading_rows.proofs.RowLoops.{most}

pub plus_is : (s : Exact) (items : ℕ) → s.value ≡ figure s.whole → s.whole + items ≤ 2 ^ 53
    → record { whole = s.whole + items; value = add binary64 s.value (figure items) } ≡ exactly (s.whole + items)
plus_is s items e h = rw (e, figure_add s.whole items (omega arith) (omega arith)) refl

total_next : (r : ℕ) (f : ℕ → ℕ) → 1 ≤ r → total (r + 1 - 1) f ≡ total (r - 1) f + f r
unfolding total
total_next zero f h = absurd (omega arith)
total_next (suc r) f h =
    let e : suc r + 1 - 1 ≡ suc r = omega arith in
    let q : suc r - 1 ≡ r = omega arith in
    rw (e, q) refl

-- THE SUM over the sub-windows before the one that is so far back
module _ (k : MicroCm) (g key : List ℕ) where
  pub record Summing (last back : ℕ) (sum : Exact) : Type 0 where
    pub is : sum ≡ exactly (total (back - 1) (least_back k g key))
    pub few : sum.whole ≤ back * most
    pub within : back ≤ last + 1

  pub summing_begin : (n last value : ℕ) (sum : Exact) → n ≡ n_of k.clock → value ≡ least_in k g key n → value ≤ most → sum ≡ exactly value
      → Summing last 1 sum
  unfolding total
  summing_begin n last value sum en e l es =
      let now : value ≡ least_back k g key 0 = e ∙ rw (en, sub-zero) refl in
      record { is = es ∙ rw now refl; few = rw es (omega arith); within = omega arith }

  module _ (last back : ℕ) (sum : Exact) (w : Summing last back sum) where
    pub summing_exact : sum.value ≡ figure sum.whole
    summing_exact = rw w.is refl

    pub summing_room : (items : ℕ) → back < 4096 → items ≤ most → sum.whole + items ≤ 2 ^ 53
    summing_room items short l = omega (arith, w.few)

    pub summing_on : (n items : ℕ) (next : Exact) → 1 ≤ back → back ≤ last → n ≡ n_of k.clock → items ≡ least_in k g key (n - back) → items ≤ most
        → next ≡ exactly (sum.whole + items)
        → Summing last (back + 1) next
    summing_on n items next some more en e l es =
        let now : items ≡ least_back k g key back = e ∙ rw en refl in
        let before : sum.whole ≡ total (back - 1) (least_back k g key) = rw w.is refl in
        record {
          is = es ∙ rw (total_next back (least_back k g key) some, before, now) refl;
          few = rw es (omega (arith, w.few));
          within = omega arith;
        }

    pub summing_end : (n reach : ℕ) → n ≡ n_of k.clock → last ≡ min n reach → last < back → sum ≡ exactly (sum_back k g key reach)
    unfolding sum_back
    summing_end n reach en el h =
        let e : back - 1 ≡ min (n_of k.clock) reach = omega (arith, w.within) in
        w.is ∙ rw e refl

    pub summing_few : last < 4096 → sum.whole ≤ 4096 * most
    summing_few h = omega (arith, w.few, w.within)
