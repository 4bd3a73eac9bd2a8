-- `row_unit`: the part that is lent is the key's cell, whose zoom was judged. Assumes nothing.
use Rattle.sketch.proofs.KeyCellLaws.{lent_power}
use borrow.Author.Rules.{rules}
use Rattle.sketch_reading_rows.proofs.worker.row_unit.Goals as goal

pub unit-requires : goal.unit-requires
unit-requires c = (search rules, search rules, search (lent_power, rules))
