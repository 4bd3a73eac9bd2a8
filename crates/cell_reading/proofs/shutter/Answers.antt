-- `shutter`: it was read when the cell was judged. Assumes nothing.
use Rattle.cell_reading.proofs.ReadingCalls.{shutter_turned, shutter_done}
use borrow.Author.Rules.{rules}
use Rattle.cell_reading.proofs.shutter.Goals as goal

pub returns-then-not-accepted : goal.returns-then-not-accepted
returns-then-not-accepted c = search (shutter_turned, rules)

pub returns : goal.returns
returns c = search (shutter_done, rules)
