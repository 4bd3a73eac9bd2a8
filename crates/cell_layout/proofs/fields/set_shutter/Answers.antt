-- `layout::set_shutter`: the four bytes behind the zoom are replaced, and no other. Assumes nothing.
use Prim.Native.Nat.{ℕ, ◌+◌, ◌-◌, ◌/◌, ◌%◌}
use mathlib.Core.Path.{◌≡◌, refl}
use mathlib.Core.List.{[], ◌∷◌}
use native.Mathlib.Nat.{div-div-eq-div-mul}
use native.Mathlib.Omega.{arith}
use Rattle.laws.specs.Bytes.{bytes_of}
use Rattle.cell.specs.Cell.{with_shutter}
use Rattle.cell_layout.proofs.fields.set_shutter.Goals as goal

-- the four bytes as the machine's own numbers give them
four_bytes : (v : ℕ) → v % 256 ∷ (v / 256 % 256 ∷ (v / 65536 % 256 ∷ (v / 16777216 % 256 ∷ []))) ≡ bytes_of 4 v
unfolding bytes_of
four_bytes v = simp (← div-div-eq-div-mul v 256 256, ← div-div-eq-div-mul v 65536 256) refl

pub returns : goal.returns
unfolding with_shutter
returns c =
    let four : c.args.t + 3 + 4 - (c.args.t + 3) ≡ 4 = omega arith in
    rw (c.copy_from_slice.ensures.after, c.to_le_bytes.ensures, ← four_bytes c.args.shutter, four) refl
