-- `mean`: a key that was let pass can be read. Assumes nothing.
use Rattle.sketch_reading.proofs.ReadLaws.{mean_refused, read_readable, mean_told_lem}
use borrow.Author.Rules.{rules}
use Rattle.sketch_reading.proofs.mean.Goals as goal

pub returns-then-not-accepted : goal.returns-then-not-accepted
returns-then-not-accepted c = search (mean_refused, rules)

pub mean-requires : goal.mean-requires
mean-requires c = search (read_readable, rules)

pub returns : goal.returns
returns c = search (mean_told_lem, rules)
