-- Every Over and Under figure of sound cells is below 2 ^ 53: one cell says less than 2 ^ 40 of a sub-window, and at most 4,097 of them are added up.
use Prim.Native.Nat.{ℕ, ◌+◌, ◌-◌, ◌*◌, ◌^◌, ◌≤◌, ◌<◌, min}
use mathlib.Core.Bool.{Bool, true, false, cond}
use mathlib.Core.List.{List}
use native.Mathlib.Omega.{arith}
use native.Mathlib.Nat.{le_trans}
use lib.Dec.{eqb}
use lib.ListN.{get_or}
use Rattle.laws.proofs.PartLaws.{part_at}
use Rattle.laws.proofs.SumLaws.{least_le, total_le}
use Rattle.cell.specs.Cell.{depth_of, slot_of, shutter_of}
use Rattle.cell.proofs.CellLaws.{slot_inside}
use Rattle.clock.specs.Clock.{n_of}
use Rattle.sketch.specs.declared.MicroCm.{MicroCm}
use Rattle.sketch.specs.Sketch.{cell_of}
use Rattle.sketch.specs.Figures.{items_in, key_cell, row_items, least_in, least_back, sum_back, under_of, over_of}
use Rattle.sketch.specs.Workers.{Readable, row_unit}
use Rattle.sketch.proofs.AddressLaws.{product_le}
use Rattle.sketch.proofs.KeyCellLaws.{row_unit_le, row_shutter}
use Rattle.sketch_reading_rows.proofs.RowLoops.{most}

choice_le : (x : Bool) (a m : ℕ) → a ≤ m → cond x a 0 ≤ m
choice_le true a m h = h
choice_le false a m h = omega arith

module _ (k : MicroCm) (g key : List ℕ) (w : Readable k key g) (small : (i : ℕ) → get_or g i 0 < 256) where
  abbrev t : ℕ
  t = k.params.t

  pixel_le : (index j : ℕ) → get_or (cell_of k g index) (slot_of t j) 0 ≤ 255
  pixel_le index j =
      let inside : slot_of t j < depth_of t = omega (arith, slot_inside t j) in
      rw (part_at (index * depth_of t) (depth_of t) g (slot_of t j) inside) (omega (arith, small (index * depth_of t + slot_of t j)))

  row_le : (j : ℕ) → row_items k g key j 0 ≤ most
  unfolding items_in
  row_le j =
      let some : 0 < k.rows = omega (arith, w.ready.rows_low) in
      let unit = row_unit_le k g key w 0 some in
      let shut : shutter_of t (cell_of k g (key_cell k key 0)) ≤ 2 ^ 32 - 1 = omega (arith, unit, row_shutter k g key w 0 some) in
      omega (
        arith,
        choice_le (eqb j (n_of k.clock)) (shutter_of t (cell_of k g (key_cell k key 0))) (2 ^ 32 - 1) shut,
        product_le (row_unit k g key 0) (get_or (cell_of k g (key_cell k key 0)) (slot_of t j) 0) (2 ^ 32 - 1) 255 unit (pixel_le (key_cell k key 0) j),
      )

  least_low : (j : ℕ) → least_in k g key j ≤ most
  unfolding least_in
  least_low j = le_trans (least_le (k.rows - 1) (row_items k g key j) 0 (omega arith)) (row_le j)

  sum_low : (reach : ℕ) → reach ≤ 4096 → sum_back k g key reach < 2 ^ 53
  unfolding sum_back
  sum_low reach h =
      omega (arith, total_le (min (n_of k.clock) reach) most (least_back k g key) (λ i l. least_low (n_of k.clock - i)))

  pub over_low : over_of k g key < 2 ^ 53
  over_low = sum_low t w.ready.fit.t_high

  pub under_low : under_of k g key < 2 ^ 53
  under_low = sum_low (t - 1) (omega (arith, w.ready.fit.t_high))
