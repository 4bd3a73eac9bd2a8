-- A code's columns are a part of those of all, so they are as many as the sketch has rows, and below cols as those are. Assumes nothing.
use Prim.Native.Nat.{ℕ, ◌+◌, ◌*◌, ◌≤◌, ◌<◌}
use mathlib.Core.Path.{◌≡◌}
use mathlib.Core.Bool.{true}
use mathlib.Core.List.{List}
use native.Mathlib.Omega.{arith}
use native.Mathlib.Nat.{le_refl}
use lib.ListN.{length, get_or, take, length-take}
use lib.Seq.{get_or-take}
use borrow.Author.Tests.{eq-eqb}
use Rattle.laws.proofs.PartLaws.{part_at, part_length, piece_room}
use Rattle.sketch.specs.declared.MicroCm.{MicroCm}
use Rattle.sketch.specs.Refusals.{all_below, key_fits}
use Rattle.sketch.proofs.AddressLaws.{all_below_lem, each_below}
use Rattle.codes.specs.Codes.{code_in}

-- the codes before it are below the count, and so is this one
pub code_inside : (rows count i : ℕ) → i < count → i * rows + rows ≤ count * rows
code_inside rows count i h = piece_room rows count i (count * rows) h (le_refl (count * rows))

module _ (k : MicroCm) (columns : List ℕ) (count : ℕ) (room : count * k.rows ≤ length columns) (i : ℕ) (h : i < count) where
  pub code_rows : length (code_in k.rows columns i) ≡ k.rows
  code_rows = part_length (i * k.rows) k.rows columns (omega (arith, code_inside k.rows count i h))

  module _ (low : all_below k.cols (take (count * k.rows) columns) ≡ true) where
    code_column : (row : ℕ) → row < length (code_in k.rows columns i) → get_or (code_in k.rows columns i) row 0 < k.cols
    code_column row l =
        let inside : row < k.rows = omega (arith, code_rows) in
        let place : i * k.rows + row < count * k.rows = omega (arith, code_inside k.rows count i h) in
        rw (part_at (i * k.rows) k.rows columns row inside, ← get_or-take (count * k.rows) columns (i * k.rows + row) 0 place)
        (all_below_lem k.cols (take (count * k.rows) columns) low (i * k.rows + row) (rw (length-take (count * k.rows) columns) (omega arith)))

    pub code_fits : key_fits k (code_in k.rows columns i) ≡ true
    unfolding key_fits
    code_fits = rw (eq-eqb _ _ code_rows) (each_below k.cols (code_in k.rows columns i) code_column)
