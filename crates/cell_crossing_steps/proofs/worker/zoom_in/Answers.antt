use Rattle.cell_crossing_steps.proofs.CrossingCases.{zooming_begin, zooming_stop, zooming_on, zooming_end}
use borrow.Author.Rules.{rules}
use Rattle.cell_crossing_steps.proofs.worker.zoom_in.Goals as goal

pub loop-zoom-init : goal.loop-zoom-init
loop-zoom-init c = search (zooming_begin, rules)

pub returns-then-not-has_room : goal.returns-then-not-has_room
returns-then-not-has_room c = search (zooming_stop, rules)

pub loop-zoom-preserved : goal.loop-zoom-preserved
loop-zoom-preserved c = search (zooming_on, rules)

pub returns : goal.returns
returns c = search (zooming_end, rules)
