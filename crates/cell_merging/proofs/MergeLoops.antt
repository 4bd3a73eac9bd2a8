-- The loop of a merge that stores the sums. Assumes nothing.
use Prim.Native.Nat.{ℕ, suc, ◌+◌, ◌^◌, ◌<◌}
use mathlib.Core.Path.{◌≡◌, ◌∙◌}
use mathlib.Core.Bool.{true}
use mathlib.Core.List.{List, ◌++◌, append_assoc}
use lib.ListN.{length, take, drop, get_or, set, length-set}
use lib.Seq.{drop-cons, take-suc, set_at, length-take-le}
use native.Mathlib.Numerals.{add-one}
use native.Mathlib.Omega.{arith}
use Rattle.cell.specs.Crossing.{all_at_most}
use Rattle.cell.proofs.SumsLaws.{most_at}

-- COPY EACH: up to i the sums, from i on what stood there
pub record Copying (sums l₀ l : List ℕ) (i : ℕ) : Type 0 where
  pub done : l ≡ take i sums ++ drop i l₀
  pub same : length l ≡ length l₀

module _ (sums l₀ l : List ℕ) (i : ℕ) (w : Copying sums l₀ l i) (paired : length sums ≡ length l₀) where
  pub copying_on : i < length l → Copying sums l₀ (set l i (get_or sums i 0)) (i + 1)
  copying_on h =
      let a : i < length l₀ = omega (arith, w.same) in
      let b : i < length sums = omega arith in
      let q : length (take i sums) ≡ i = length-take-le i sums (omega arith) in
      record {
        done =
            rw (w.done, drop-cons l₀ i 0 a, set_at (take i sums) (get_or l₀ i 0) (drop (suc i) l₀) (get_or sums i 0) i q, add-one i, take-suc sums i 0 b)
            (simp append_assoc);
        same = length-set l i (get_or sums i 0) ∙ w.same;
      }

pub copy_fits : (sums : List ℕ) (i : ℕ) → all_at_most 255 sums ≡ true → get_or sums i 0 < 2 ^ 8
copy_fits sums i e = omega (arith, most_at 255 sums i e)
