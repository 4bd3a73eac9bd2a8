-- The ways through one cell's items, in the form in which the code comes to them. Assumes nothing.
use Prim.Native.Nat.{ℕ, ◌+◌, ◌-◌, ◌*◌, ◌^◌, ◌≤◌, ◌<◌}
use mathlib.Core.Path.{◌≡◌}
use mathlib.Core.List.{List}
use native.Mathlib.Omega.{arith}
use native.Mathlib.Nat.{zero-add}
use lib.ListN.{get_or}
use borrow.Author.Tests.{eq-eqb, ne_eqb}
use Rattle.cell.specs.Cell.{slot_of, shutter_of, unit_of}
use Rattle.sketch.specs.Figures.{items_in}
use Rattle.sketch.proofs.AddressLaws.{product_le}

module _ (unit pixel : ℕ) (h : unit ≤ 2 ^ 32 - 1) (l : pixel ≤ 255) where
  product_bound : unit * pixel ≤ 255 * (2 ^ 32 - 1)
  product_bound = omega (arith, product_le unit pixel (2 ^ 32 - 1) 255 h l)

  pub past_le : unit * pixel ≤ 256 * (2 ^ 32 - 1)
  past_le = omega (arith, product_bound)

  pub present_le : (t : ℕ) (b : List ℕ) (shutter : ℕ) → shutter ≡ shutter_of t b → shutter_of t b < unit → shutter + unit * pixel ≤ 256 * (2 ^ 32 - 1)
  present_le t b shutter e q = omega (arith, product_bound)

module _ (t c n j : ℕ) (b : List ℕ) (slot unit pixel : ℕ) (es : slot ≡ slot_of t j) (ep : pixel ≡ get_or b slot 0) (eu : unit ≡ unit_of t c b) where
  pub items_past : (j ≡ n → ⊥) → unit * pixel ≡ items_in t c n b j
  unfolding items_in
  items_past ne = rw (ep, es, eu) (simp (ne_eqb _ _ ne, zero-add))

  pub items_present : (shutter : ℕ) → shutter ≡ shutter_of t b → j ≡ n → shutter + unit * pixel ≡ items_in t c n b j
  unfolding items_in
  items_present shutter e q = rw (ep, es, eu, e) (simp (eq-eqb _ _ q))
