-- `zoom_in_to`: the pixels are the front of the cell, and the zoom is set behind them. Assumes nothing.
use Rattle.cell_crossing_steps.proofs.CrossingCases.{zoomed_is}
use borrow.Author.Rules.{rules}
use Rattle.cell_crossing_steps.proofs.worker.zoom_in_to.Goals as goal

pub returns : goal.returns
returns c = search (zoomed_is, rules)
