use Rattle.cell_crossing_steps.proofs.CrossingLoops.{clear_one, clearing_begin, clearing_on, clearing_end}
use borrow.Author.Rules.{rules}
use Rattle.cell_crossing_steps.proofs.worker.clear.Goals as goal

pub returns-then-count-eq1 : goal.returns-then-count-eq1
returns-then-count-eq1 c = search (clear_one, rules)

pub loop-init : goal.loop-init
loop-init c = search (clearing_begin, rules)

pub loop-preserved : goal.loop-preserved
loop-preserved c = search (clearing_on, rules)

pub returns : goal.returns
returns c = search (clearing_end, rules)
