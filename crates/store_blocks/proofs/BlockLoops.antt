-- The sum has what stands before i, and what is left is the weighed rest from i on.
use Prim.Native.Nat.{ℕ, ◌+◌, ◌*◌, ◌≤◌, ◌<◌}
use mathlib.Core.Path.{◌≡◌, sym, ◌∙◌}
use mathlib.Core.List.{List}
use lib.ListN.{length, drop, get_or, drop_of_length-le}
use lib.Seq.{drop-cons}
use native.Mathlib.Omega.{arith}
use native.Mathlib.Nat.{add-zero, add_assoc, mul-le-mul}
use native.Mathlib.Numerals.{add-one}
use Rattle.store_blocks.specs.Blocks.{weighed_from}
use Rattle.store_blocks.proofs.BlockLaws.{weighed_cons}

pub record Weighing (b : List ℕ) (sum i : ℕ) : Type 0 where
  pub done : weighed_from 0 b ≡ sum + weighed_from i (drop i b)
  pub few : sum ≤ i * 130560

module _ (b : List ℕ) where
  module _ (sum i : ℕ) (w : Weighing b sum i) where
    pub weighing_end : length b ≤ i → sum ≡ weighed_from 0 b
    unfolding weighed_from
    weighing_end h = sym (w.done ∙ rw (drop_of_length-le b h) (add-zero sum))

    module _ (x : ℕ) (h : i < length b) (short : length b ≤ 512) (small : x < 256) where
      product : x * (i + 1) ≤ 255 * 512
      product = mul-le-mul {n₂ = 255} {m₂ = 512} (omega arith) (omega arith)

      pub weighing_on : x ≡ get_or b i 0 → Weighing b (sum + x * (i + 1)) (i + 1)
      weighing_on e = record {
        done = w.done ∙ rw (drop-cons b i 0 h, weighed_cons, ← e) (simp (add-one, add_assoc));
        few = omega (arith, product, w.few);
      }
