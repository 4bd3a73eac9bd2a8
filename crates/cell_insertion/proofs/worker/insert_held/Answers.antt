-- `worker::insert_held`: turned back by the verdict, or done by the worker that it was judged for. Assumes nothing.
use Rattle.cell_insertion.proofs.InsertionCalls.{insert_turned, insert_done}
use borrow.Author.Rules.{rules}
use Rattle.cell_insertion.proofs.worker.insert_held.Goals as goal

pub returns-then-not-accepted : goal.returns-then-not-accepted
returns-then-not-accepted c = search (insert_turned, rules)

pub returns : goal.returns
returns c = search (insert_done, rules)
