-- `enter_held`: turned back by the verdict, or done by the worker that it was judged for. Assumes nothing.
use Rattle.cell_crossing.proofs.CrossingCalls.{cross_turned, cross_accepted}
use borrow.Author.Rules.{rules}
use Rattle.cell_crossing.proofs.worker.enter_held.Goals as goal

pub returns-then-not-accepted : goal.returns-then-not-accepted
returns-then-not-accepted c = search (cross_turned, rules)

pub returns : goal.returns
returns c = search (cross_accepted, rules)
