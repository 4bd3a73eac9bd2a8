-- `sketch`. Assumes nothing.
use Rattle.edge_values.proofs.WordsLaws.{sketch_read}
use borrow.Author.Rules.{rules}
use Rattle.edge_values.proofs.sketch.Goals as goal

pub returns : goal.returns
returns c = search (sketch_read, rules)
