-- `movement`: as for an item, without a key; and where n stays no cell is judged. Assumes nothing.
use Rattle.sketch_counting_items.proofs.VerdictCases.{movement_ready, movement_none}
use borrow.Author.Rules.{rules}
use Rattle.sketch_counting_items.proofs.judge.movement.Goals as goal

pub returns-then-not-crosses : goal.returns-then-not-crosses
returns-then-not-crosses c = search (movement_none, rules)

pub all_cells-requires : goal.all_cells-requires
all_cells-requires c = search (movement_ready, rules)
