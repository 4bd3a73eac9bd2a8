-- `update`: the item is one of the sub-window that it finds, and the answer is what the definition gives there.
use Rattle.sketch_counting.proofs.CallLaws.{update_done}
use borrow.Author.Rules.{rules}
use Rattle.sketch_counting.proofs.update.Goals as goal

pub returns : goal.returns
returns c = search (update_done, rules)
