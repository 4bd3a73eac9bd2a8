-- The loop that copies bytes: before i what the other list has, from i on what stood there. Assumes nothing.
use Prim.Native.Nat.{ℕ, suc, ◌+◌, ◌≤◌, ◌<◌}
use mathlib.Core.Path.{◌≡◌, ◌∙◌}
use mathlib.Core.List.{List, ◌++◌, append_assoc}
use lib.ListN.{length, take, drop, get_or, set, length-set}
use lib.Seq.{drop-cons, take-suc, set_at, length-take-le}
use native.Mathlib.Numerals.{add-one}
use native.Mathlib.Omega.{arith}

-- COPY
pub record Copying (from b₀ b : List ℕ) (i : ℕ) : Type 0 where
  pub done : b ≡ take i from ++ drop i b₀
  pub same : length b ≡ length b₀

module _ (from b₀ b : List ℕ) (i : ℕ) (w : Copying from b₀ b i) (enough : length b₀ ≤ length from) where
  pub copying_in : i < length b → i < length from
  copying_in h = omega (arith, w.same)

  pub copying_on : i < length b → Copying from b₀ (set b i (get_or from i 0)) (i + 1)
  copying_on h =
      let a : i < length b₀ = omega (arith, w.same) in
      let c : i < length from = omega arith in
      let q : length (take i from) ≡ i = length-take-le i from (omega arith) in
      record {
        done =
            rw (w.done, drop-cons b₀ i 0 a, set_at (take i from) (get_or b₀ i 0) (drop (suc i) b₀) (get_or from i 0) i q, add-one i, take-suc from i 0 c)
            (simp append_assoc);
        same = length-set b i (get_or from i 0) ∙ w.same;
      }
