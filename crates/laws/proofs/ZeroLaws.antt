-- A list is filled with zeros from the front, one more at each turn. Assumes nothing.
use Prim.Native.Nat.{ℕ, ◌+◌, ◌≤◌, ◌<◌}
use mathlib.Core.Path.{◌≡◌, ◌∙◌}
use mathlib.Core.List.{List, ◌++◌, append-nil}
use lib.ListN.{length, drop, set, replicate}
use lib.Seq.{drop-length}
use native.Mathlib.Omega.{arith}
use borrow.Author.Fill.{fill_more}

pub zeros_on : (l₀ l : List ℕ) (i : ℕ) → l ≡ replicate i 0 ++ drop i l₀ → length l ≡ length l₀ → i < length l
    → set l i 0 ≡ replicate (i + 1) 0 ++ drop (i + 1) l₀
zeros_on l₀ l i e same h = rw e (fill_more i 0 l₀ (omega arith))

pub zeros_end : (l₀ l : List ℕ) (i : ℕ) → l ≡ replicate i 0 ++ drop i l₀ → length l ≡ length l₀ → i ≤ length l → length l ≤ i → l ≡ replicate (length l₀) 0
zeros_end l₀ l i e same a b =
    let q : i ≡ length l₀ = omega arith in
    e ∙ rw (q, drop-length) (append-nil _)
