-- `worker::credit_pixel`: a pixel with room takes its unit, a full one has the cell zoom out. Assumes nothing.
use Rattle.cell.proofs.InsertionLaws.{credit_gained}
use borrow.Author.Rules.{rules}
use Rattle.cell_insertion.proofs.worker.credit_pixel.Goals as goal

pub returns-then-pixel-lt255-clause-result_after : goal.returns-then-pixel-lt255-clause-result_after
returns-then-pixel-lt255-clause-result_after c = search (credit_gained, rules)
