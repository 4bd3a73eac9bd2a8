-- `key_cell`: a key that fits has a column below cols in each row. Assumes nothing.
use Rattle.sketch.proofs.AddressLaws.{key_rows, key_column}
use native.Mathlib.Omega.{arith}
use borrow.Author.Rules.{rules}
use Rattle.sketch_judging.proofs.grid.key_cell.Goals as goal

pub bounds-key-row : goal.bounds-key-row
bounds-key-row c = omega (arith, key_rows _ _ c.requires.3)

pub cell_index-requires : goal.cell_index-requires
cell_index-requires c = (search rules, key_column _ _ c.requires.3 _ (search rules), search rules, search rules)
