-- `with_dimensions`: refused, nothing was written; accepted, the grid has the size of so many zeros. Assumes nothing.
use Rattle.sketch.proofs.FreshLaws.{fresh_refused, fresh_made}
use borrow.Author.Rules.{rules}
use Rattle.sketch_start.proofs.with_dimensions.Goals as goal

pub returns-then-not-accepted : goal.returns-then-not-accepted
returns-then-not-accepted c = search (fresh_refused, rules)

pub returns : goal.returns
returns c = search (fresh_made, rules)
