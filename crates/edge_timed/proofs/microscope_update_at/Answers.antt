-- `microscope_update_at`. Assumes nothing.
use Rattle.edge_timed.proofs.TimedLaws.{update_at_put}
use borrow.Author.Rules.{rules}
use Rattle.edge_timed.proofs.microscope_update_at.Goals as goal

pub returns : goal.returns
returns c = search (update_at_put, rules)
