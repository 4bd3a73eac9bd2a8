-- `item`: each way out is what the verdict comes to behind the causes that do not hold. Assumes nothing.
use Rattle.sketch_counting_items.proofs.VerdictCases.{item_ready, item_fits}
use borrow.Author.Rules.{rules}
use Rattle.sketch_counting_items.proofs.judge.item.Goals as goal

pub all_cells-requires : goal.all_cells-requires
all_cells-requires c = search (item_ready, rules)

pub key_cells-requires : goal.key_cells-requires
key_cells-requires c = (search (item_ready, rules), search (item_fits, rules))
