-- The key's cell in a row, as the code lends it: a part of the grid that is that cell, of its depth, and sound. Assumes nothing.
use Prim.Native.Nat.{ℕ, suc, ◌+◌, ◌-◌, ◌*◌, ◌^◌, ◌≤◌, ◌<◌}
use mathlib.Core.Path.{◌≡◌, refl, ◌∙◌}
use mathlib.Core.Bool.{true}
use mathlib.Core.List.{List, ◌∷◌}
use native.Mathlib.Nat.{add-sub_cancel_left, zero-add}
use lib.ListN.{length, take, drop}
use lib.Seq.{drop-cons}
use Rattle.laws.proofs.PartLaws.{part_length}
use Rattle.cell.specs.Cell.{depth_of, zoom_of, shutter_of, unit_of, sound_of}
use Rattle.cell.proofs.SoundLaws.{sound_unit, sound_shutter}
use Rattle.clock.specs.Clock.{n_of}
use Rattle.sketch.specs.declared.MicroCm.{MicroCm}
use Rattle.sketch.specs.Sketch.{cell_of, key_cells}
use Rattle.sketch.specs.Figures.{items_in, key_cell, row_items}
use Rattle.sketch.specs.Workers.{Readable, row_unit}
use Rattle.sketch.proofs.AddressLaws.{key_rows}
use Rattle.sketch.proofs.JudgedLaws.{judged_key}

-- the key's cells from a row on: that row's, and those behind it
pub row_cons : (k : MicroCm) (key : List ℕ) (row : ℕ) → row < length key
    → key_cells k row (drop row key) ≡ key_cell k key row ∷ key_cells k (suc row) (drop (suc row) key)
unfolding key_cells
row_cons k key row h = rw (drop-cons key row 0 h) refl

module _ (k : MicroCm) (g key : List ℕ) (w : Readable k key g) (row : ℕ) (h : row < k.rows) where
  pub row_sound : sound_of k.params.t k.params.c (cell_of k g (key_cell k key row)) ≡ true
  row_sound = rw zero-add at (judged_key k g key 0 row w.judged (rw (key_rows k key w.fits) h))

  pub row_unit_le : row_unit k g key row ≤ 2 ^ 32 - 1
  row_unit_le = sound_unit k.params.t k.params.c (cell_of k g (key_cell k key row)) row_sound w.ready.fit.c_low

  pub row_shutter : shutter_of k.params.t (cell_of k g (key_cell k key row)) < row_unit k g key row
  row_shutter = sound_shutter k.params.t k.params.c (cell_of k g (key_cell k key row)) row_sound

  module _ (start d index : ℕ) (ei : index ≡ key_cell k key row) (es : start ≡ index * depth_of k.params.t) (ed : d ≡ depth_of k.params.t) where
    pub lent_is : take (start + d - start) (drop start g) ≡ cell_of k g (key_cell k key row)
    lent_is = rw (es, ei, ed, add-sub_cancel_left) refl

    pub lent_room : start + depth_of k.params.t ≤ length g → length (take (start + d - start) (drop start g)) ≡ depth_of k.params.t
    lent_room r = rw (ed, add-sub_cancel_left) (part_length start (depth_of k.params.t) g r)

    module _ (z : ℕ) (ez : z ≡ zoom_of k.params.t (take (start + d - start) (drop start g))) where
      pub lent_power : k.params.c ^ z ≤ 2 ^ 32 - 1
      lent_power = rw (ez, lent_is) row_unit_le

      pub power_is : (r : ℕ) → r ≡ k.params.c ^ z → r ≡ row_unit k g key row
      power_is r e = e ∙ rw (ez, lent_is) refl

    module _ (unit : ℕ) (eu : unit ≡ row_unit k g key row) where
      pub lent_unit : unit ≡ unit_of k.params.t k.params.c (take (start + d - start) (drop start g))
      lent_unit = rw lent_is eu

      pub lent_shutter : shutter_of k.params.t (take (start + d - start) (drop start g)) < unit
      lent_shutter = rw (lent_is, eu) row_shutter

    pub items_are : (n j r : ℕ) → n ≡ n_of k.clock → r ≡ items_in k.params.t k.params.c n (take (start + d - start) (drop start g)) j
        → r ≡ row_items k g key j row
    items_are n j r en e = e ∙ rw (lent_is, en) refl

  pub unit_low : (unit : ℕ) → unit ≡ row_unit k g key row → unit ≤ 2 ^ 32 - 1
  unit_low unit e = rw e row_unit_le
