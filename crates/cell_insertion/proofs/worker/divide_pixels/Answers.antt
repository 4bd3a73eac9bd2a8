use Rattle.cell_insertion.proofs.DividingLaws.{dividing_begin, dividing_on, dividing_end}
use borrow.Author.Rules.{rules}
use Rattle.cell_insertion.proofs.worker.divide_pixels.Goals as goal

pub loop-i-init : goal.loop-i-init
loop-i-init c = search (dividing_begin, rules)

pub loop-i-preserved : goal.loop-i-preserved
loop-i-preserved c = search (dividing_on, rules)

pub returns-clause-result_after : goal.returns-clause-result_after
returns-clause-result_after c = search (dividing_end, rules)
