-- `moved`: the cells cross where they are to, and were judged there. Assumes nothing.
use Rattle.sketch_counting_items.proofs.MoveLaws.{moves_crossed}
use borrow.Author.Rules.{rules}
use Rattle.sketch_counting_items.proofs.worker.moved.Goals as goal

pub returns-then-moves-clause-result_after : goal.returns-then-moves-clause-result_after
returns-then-moves-clause-result_after c = search (moves_crossed, rules)
