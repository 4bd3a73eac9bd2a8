-- `estimate`: a key that was let pass can be read, with the clock's fraction. Assumes nothing.
use Rattle.sketch_reading.proofs.ReadLaws.{read_refused, read_readable, read_told}
use borrow.Author.Rules.{rules}
use Rattle.sketch_reading.proofs.estimate.Goals as goal

pub returns-then-not-accepted : goal.returns-then-not-accepted
returns-then-not-accepted c = search (read_refused, rules)

pub estimate-requires : goal.estimate-requires
estimate-requires c = search (read_readable, rules)

pub returns : goal.returns
returns c = search (read_told, rules)
