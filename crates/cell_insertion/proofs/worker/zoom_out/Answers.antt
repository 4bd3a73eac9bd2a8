-- `worker::zoom_out`: each way out is a case of `credit_of` of a full pixel. Assumes nothing.
use Rattle.cell_insertion.proofs.InsertionCases.{credit_zoomed, credit_dropped}
use borrow.Author.Rules.{rules}
use Rattle.cell_insertion.proofs.worker.zoom_out.Goals as goal

pub returns-then-zoom-max_zoom-clause-result_after : goal.returns-then-zoom-max_zoom-clause-result_after
returns-then-zoom-max_zoom-clause-result_after c = search (credit_zoomed, rules)

pub returns-clause-result_after : goal.returns-clause-result_after
returns-clause-result_after c = search (credit_dropped, rules)
