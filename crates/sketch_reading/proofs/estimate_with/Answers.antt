-- `estimate_with`: a key that was let pass can be read, with the given fraction. Assumes nothing.
use Rattle.sketch_reading.proofs.ReadLaws.{read_with_refused, read_with_readable, read_with_told}
use borrow.Author.Rules.{rules}
use Rattle.sketch_reading.proofs.estimate_with.Goals as goal

pub returns-then-not-accepted : goal.returns-then-not-accepted
returns-then-not-accepted c = search (read_with_refused, rules)

pub estimate-requires : goal.estimate-requires
estimate-requires c = search (read_with_readable, rules)

pub returns : goal.returns
returns c = search (read_with_told, rules)
