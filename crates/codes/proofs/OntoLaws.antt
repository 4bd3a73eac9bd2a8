-- These first and what stood behind them: two lists in a row, and each place lies in one of them. Assumes nothing.
use Prim.Native.Nat.{ℕ, ◌+◌, ◌≤◌, ◌<◌}
use mathlib.Core.Path.{◌≡◌, ap}
use mathlib.Core.List.{List, ◌++◌}
use native.Mathlib.Omega.{arith}
use lib.ListN.{length, get_or, take, drop, length-append, length-drop, get_or-append}
use lib.Seq.{take-append_seam, drop-append_seam, take-append-le, drop-append-le}
use Rattle.laws.specs.Parts.{part}
use Rattle.codes.specs.Codes.{onto}

module _ (old new : List ℕ) where
  pub onto_taken : take (length new) (onto old new) ≡ new
  onto_taken = take-append_seam new (drop (length new) old)

  pub onto_dropped : drop (length new) (onto old new) ≡ drop (length new) old
  onto_dropped = drop-append_seam new (drop (length new) old)

  pub onto_length : length new ≤ length old → length (onto old new) ≡ length old
  onto_length room = simp (length-append, length-drop) (omega arith)

  pub onto_at : (i : ℕ) → i < length new → get_or (onto old new) i 0 ≡ get_or new i 0
  onto_at i h = get_or-append new (drop (length new) old) 0 i h

  pub onto_part : (a d : ℕ) → a + d ≤ length new → part a d (onto old new) ≡ part a d new
  onto_part a d room =
      rw (drop-append-le a new (drop (length new) old) (omega arith))
      (take-append-le d (drop a new) (drop (length new) old) (rw (length-drop a new) (omega arith)))

  -- once more, it is as it was
  pub onto_again : onto (onto old new) new ≡ onto old new
  onto_again = ap (λ (l : List ℕ). new ++ l) onto_dropped
