-- `microscope_cell_enter_sub_window`. Assumes nothing.
use Rattle.edge.proofs.EdgeLaws.{enter_put}
use borrow.Author.Rules.{rules}
use Rattle.edge.proofs.cells.microscope_cell_enter_sub_window.Goals as goal

pub returns : goal.returns
returns c = search (enter_put, rules)
