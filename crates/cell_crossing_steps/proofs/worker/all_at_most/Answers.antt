use Rattle.cell.proofs.AtMostLaws.{most_on, most_stop, most_end}
use borrow.Author.Rules.{rules}
use Rattle.cell_crossing_steps.proofs.worker.all_at_most.Goals as goal

pub returns-then-from-most : goal.returns-then-from-most
returns-then-from-most c = search (most_stop, rules)

pub loop-pixel-preserved : goal.loop-pixel-preserved
loop-pixel-preserved c = search (most_on, rules)

pub returns : goal.returns
returns c = search (most_end, rules)
