-- `merge`: judged first, then every cell. Assumes nothing.
use Rattle.sketch_merging.proofs.MergeCases.{merge_refused, merge_ready, merge_judged, merge_other, merge_done}
use borrow.Author.Rules.{rules}
use Rattle.sketch_merging.proofs.merge.Goals as goal

pub returns-then-not-accepted : goal.returns-then-not-accepted
returns-then-not-accepted c = search (merge_refused, rules)

pub merge_each-passed-requires-clause-ready : goal.merge_each-passed-requires-clause-ready
merge_each-passed-requires-clause-ready c = (search (merge_ready, rules), search (merge_judged, rules))

pub merge_each-passed-requires-clause-sound_cells : goal.merge_each-passed-requires-clause-sound_cells
merge_each-passed-requires-clause-sound_cells c = search (merge_other, rules)

pub returns : goal.returns
returns c = search (merge_done, rules)
