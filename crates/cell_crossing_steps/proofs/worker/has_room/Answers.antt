-- `has_room`: the test of the front of the cell is that of its pixels. Assumes nothing.
use Rattle.cell_crossing_steps.proofs.CrossingCases.{room_is}
use borrow.Author.Rules.{rules}
use Rattle.cell_crossing_steps.proofs.worker.has_room.Goals as goal

pub returns : goal.returns
returns c = search (room_is, rules)
