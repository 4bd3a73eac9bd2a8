-- `empty`: the pixels are the front of the cell, and the shutter is set behind them. Assumes nothing.
use Rattle.cell.proofs.LayoutLaws.{front_count}
use Rattle.cell_crossing_steps.proofs.CrossingCases.{emptied_is}
use borrow.Author.Rules.{rules}
use Rattle.cell_crossing_steps.proofs.worker.empty.Goals as goal

pub slice_bounds-zero_all-end-2 : goal.slice_bounds-zero_all-end-2
slice_bounds-zero_all-end-2 c = search (front_count, rules)

pub returns : goal.returns
returns c = rw c.still.ensures (search (emptied_is, rules))
