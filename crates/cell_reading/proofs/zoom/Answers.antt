-- `zoom`: turned back by the verdict, or accepted and read. Assumes nothing.
use Rattle.cell_reading.proofs.ReadingCalls.{zoom_turned, zoom_done}
use borrow.Author.Rules.{rules}
use Rattle.cell_reading.proofs.zoom.Goals as goal

pub returns-then-not-accepted : goal.returns-then-not-accepted
returns-then-not-accepted c = search (zoom_turned, rules)

pub returns : goal.returns
returns c = search (zoom_done, rules)
