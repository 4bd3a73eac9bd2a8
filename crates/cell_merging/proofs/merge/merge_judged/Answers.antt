-- `merge_judged`: turned back by the verdict, or done by the worker that both cells were judged for. Assumes nothing.
use Rattle.cell_merging.proofs.MergeCalls.{merge_turned, merge_accepted}
use borrow.Author.Rules.{rules}
use Rattle.cell_merging.proofs.merge.merge_judged.Goals as goal

pub returns-then-not-accepted : goal.returns-then-not-accepted
returns-then-not-accepted c = search (merge_turned, rules)

pub returns : goal.returns
returns c = search (merge_accepted, rules)
