-- `update_at`: as `update`, with the item in the sub-window of its own time.
use Rattle.sketch_counting.proofs.CallLaws.{update_at_done}
use borrow.Author.Rules.{rules}
use Rattle.sketch_counting.proofs.update_at.Goals as goal

pub returns : goal.returns
returns c = search (update_at_done, rules)
