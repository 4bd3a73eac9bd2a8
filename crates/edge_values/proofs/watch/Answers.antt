-- `watch`. Assumes nothing.
use Rattle.edge_values.proofs.WordsLaws.{watch_read}
use borrow.Author.Rules.{rules}
use Rattle.edge_values.proofs.watch.Goals as goal

pub returns : goal.returns
returns c = search (watch_read, rules)
