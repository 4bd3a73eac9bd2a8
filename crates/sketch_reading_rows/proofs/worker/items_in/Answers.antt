-- `items_in`: each way out is a case of `items_in`, and a byte times a unit of four bytes is far below 2 ^ 64. Assumes nothing.
use Rattle.sketch_reading_rows.proofs.RowCases.{present_le, past_le, items_past, items_present}
use mathlib.Core.Path.{◌∙◌}
use borrow.Author.Rules.{rules}
use Rattle.sketch_reading_rows.proofs.worker.items_in.Goals as goal

pub returns-then-j-n : goal.returns-then-j-n
returns-then-j-n c = (
  items_present _ _ _ _ _ _ _ _ c.slot-slot.ensures c.from.ensures c.requires.unit_value.0 _ (c.from-then-j-n.ensures ∙ c.shutter.ensures) c.if-j-n.true,
  search (present_le, rules),
)

pub returns : goal.returns
returns c = (search (items_past, rules), search (past_le, rules))
