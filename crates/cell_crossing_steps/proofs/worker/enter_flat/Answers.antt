-- `enter_flat`: a cell of zoom 0 is cleared, and that is all. Assumes nothing.
use Rattle.cell_crossing_steps.proofs.FlatLaws.{flat_crossed}
use borrow.Author.Rules.{rules}
use Rattle.cell_crossing_steps.proofs.worker.enter_flat.Goals as goal

pub returns-clause-result_after : goal.returns-clause-result_after
returns-clause-result_after c = rw c.still.ensures (search (flat_crossed, rules))
