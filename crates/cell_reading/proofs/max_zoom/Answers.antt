-- `max_zoom`: turned back by the verdict, or accepted and looked up. Assumes nothing.
use Rattle.cell_reading.proofs.ReadingCalls.{max_zoom_turned, max_zoom_done}
use borrow.Author.Rules.{rules}
use Rattle.cell_reading.proofs.max_zoom.Goals as goal

pub returns-then-not-accepted : goal.returns-then-not-accepted
returns-then-not-accepted c = search (max_zoom_turned, rules)

pub returns : goal.returns
returns c = search (max_zoom_done, rules)
