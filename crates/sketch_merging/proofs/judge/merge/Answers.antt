-- `merge`: what each sketch is refused by, then what the pair is, then each grid. Assumes nothing.
use Rattle.sketch_merging.proofs.VerdictCases.{ready_first, ready_second}
use Rattle.sketch_merging.proofs.VerdictCases.{received_refused, other_told}
use borrow.Author.Rules.{rules}
use Rattle.sketch_merging.proofs.judge.merge.Goals as goal

pub all_cells-received-requires : goal.all_cells-received-requires
all_cells-received-requires c = search (ready_first, rules)

pub returns-then-not-accepted-3 : goal.returns-then-not-accepted-3
returns-then-not-accepted-3 c = search (received_refused, rules)

pub all_cells-requires : goal.all_cells-requires
all_cells-requires c = search (ready_second, rules)

pub returns : goal.returns
returns c = search (other_told, rules)
