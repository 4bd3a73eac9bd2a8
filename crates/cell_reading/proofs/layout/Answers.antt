-- `layout`: accepted settings have a layout, and all others none. Assumes nothing.
use Rattle.cell.proofs.CallLaws.{layout_turned, layout_done}
use borrow.Author.Rules.{rules}
use Rattle.cell_reading.proofs.layout.Goals as goal

pub returns-then-not-accepted : goal.returns-then-not-accepted
returns-then-not-accepted c = search (layout_turned, rules)

pub returns : goal.returns
returns c = search (layout_done, rules)
