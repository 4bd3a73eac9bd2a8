-- The loop over the rows for the minimum: what it has found so far. Assumes nothing.
use Prim.Native.Nat.{ℕ, zero, suc, ◌+◌, ◌-◌, ◌*◌, ◌^◌, ◌≤◌, min}
use mathlib.Core.Path.{◌≡◌, refl, sym, ◌∙◌}
use mathlib.Core.List.{List}
use native.Mathlib.Omega.{arith}
use Rattle.laws.specs.Sums.{least}
use Rattle.sketch.specs.declared.MicroCm.{MicroCm}
use Rattle.sketch.specs.Figures.{row_items, least_in}

-- the most that one cell says of one sub-window
abbrev pub most : ℕ
most = 256 * (2 ^ 32 - 1)

least_next : (r : ℕ) (f : ℕ → ℕ) → 1 ≤ r → least (r + 1 - 1) f ≡ min (least (r - 1) f) (f r)
unfolding least
least_next zero f h = absurd (omega arith)
least_next (suc r) f h =
    let e : suc r + 1 - 1 ≡ suc r = omega arith in
    let q : suc r - 1 ≡ r = omega arith in
    rw (e, q) refl

-- THE MINIMUM across the rows before this one
module _ (k : MicroCm) (g key : List ℕ) where
  pub record Leasting (j value row : ℕ) : Type 0 where
    pub is : value ≡ least (row - 1) (row_items k g key j)
    pub low : value ≤ most

  pub leasting_begin : (j value : ℕ) → value ≡ row_items k g key j 0 → value ≤ most → Leasting j value 1
  unfolding least
  leasting_begin j value e l = record { is = e; low = l }

  module _ (j value row : ℕ) (w : Leasting j value row) where
    pub leasting_on : (items smaller : ℕ) → 1 ≤ row → items ≡ row_items k g key j row → smaller ≡ min value items → Leasting j smaller (row + 1)
    leasting_on items smaller some e s = record {
      is = s ∙ rw (w.is, e) (sym (least_next row (row_items k g key j) some));
      low = omega (arith, w.low);
    }

    pub leasting_end : row ≡ k.rows → value ≡ least_in k g key j
    unfolding least_in
    leasting_end e = w.is ∙ rw e refl
