-- `row_items`: the part that is lent is the key's cell in that row. Assumes nothing.
use Rattle.sketch.proofs.KeyCellLaws.{lent_unit, unit_low, lent_shutter}
use borrow.Author.Rules.{rules}
use Rattle.sketch_reading_rows.proofs.worker.row_items.Goals as goal

pub items_in-requires-clause-unit_value : goal.items_in-requires-clause-unit_value
items_in-requires-clause-unit_value c = (search (lent_unit, rules), search (unit_low, rules), search (lent_shutter, rules))
