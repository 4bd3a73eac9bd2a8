-- An item in one cell of the grid, and in the key's cell of each row: what the code lends and leaves is what the definitions say. Assumes nothing.
use Prim.Native.Nat.{ℕ, ◌+◌, ◌-◌, ◌*◌}
use mathlib.Core.Path.{◌≡◌, refl, ◌∙◌}
use mathlib.Core.List.{List, ◌++◌}
use native.Mathlib.Nat.{add-sub_cancel_left}
use lib.ListN.{take, drop}
use Rattle.cell.specs.declared.Drawn as cell
use Rattle.cell.specs.Cell.{depth_of}
use Rattle.cell.specs.Insertion.{insert_of}
use Rattle.cell.specs.Workers.{step_of}
use Rattle.sketch.specs.declared.MicroCm.{MicroCm}
use Rattle.sketch.specs.Sketch.{cell_of, insert_at}

-- ONE CELL, lent as the part of the grid from `start` on
module _ (k : MicroCm) (g : List ℕ) (index start d : ℕ) (es : start ≡ index * depth_of k.params.t) (ed : d ≡ depth_of k.params.t) where
  abbrev t : ℕ
  t = k.params.t

  abbrev c : ℕ
  c = k.params.c

  lent_cell : take (start + d - start) (drop start g) ≡ cell_of k g index
  lent_cell = rw (es, ed, add-sub_cancel_left) refl

  pub insert_left : (n σ : ℕ) (ys : List ℕ) (r : cell.Drawn) → step_of ys r ≡ insert_of t c n (take (start + d - start) (drop start g)) σ
      → step_of (take start g ++ (ys ++ drop (start + d - start) (drop start g))) r ≡ insert_at k n index g σ
  unfolding insert_at
  insert_left n σ ys r e =
      let e' : step_of ys r ≡ insert_of t c n (cell_of k g index) σ = e ∙ rw lent_cell refl in
      rw (← e', es, ed, add-sub_cancel_left) refl
