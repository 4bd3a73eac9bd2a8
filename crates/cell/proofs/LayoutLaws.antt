-- The shutter's four bytes, read and stored one by one, are the number and the splice of the definitions;
-- and how many pixels stand before it. Assumes nothing.
use Prim.Native.Nat.{ℕ, ◌+◌, ◌*◌, ◌/◌, ◌%◌}
use mathlib.Core.Path.{◌≡◌, sym}
use mathlib.Core.List.{List}
use lib.ListN.{length, take, get_or, set}
use lib.Seq.{length-take-le}
use native.Mathlib.Omega.{arith}
use Rattle.laws.proofs.ByteLaws.{word_part, word_splice}
use Rattle.cell.specs.Cell.{pixels_of, depth_of, shutter_of, with_shutter}

module _ (t : ℕ) (b : List ℕ) where
  pub shutter_read : (w x y z : ℕ) → w ≡ get_or b (t + 3) 0 → x ≡ get_or b (t + 3 + 1) 0 → y ≡ get_or b (t + 3 + 2) 0 → z ≡ get_or b (t + 3 + 3) 0
      → w + x * 256 + y * 65536 + z * 16777216 ≡ shutter_of t b
  unfolding shutter_of
  shutter_read w x y z ew ex ey ez = rw (ew, ex, ey, ez) (sym (word_part (t + 3) b))

  pub shutter_written : (s : ℕ) → length b ≡ depth_of t
      → set (set (set (set b (t + 3) (s % 256)) (t + 3 + 1) (s / 256 % 256)) (t + 3 + 2) (s / 65536 % 256)) (t + 3 + 3) (s / 16777216 % 256) ≡ with_shutter t s b
  unfolding with_shutter
  shutter_written s size = word_splice (t + 3) s b (omega arith)

-- the pixels are the front of a cell
pub front_count : (t p : ℕ) (b : List ℕ) → p ≡ pixels_of t → length b ≡ depth_of t → p ≡ length (take p b)
front_count t p b e d = sym (length-take-le p b (omega arith))
