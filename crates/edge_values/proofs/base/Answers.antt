-- `base`. Assumes nothing.
use Rattle.edge_values.proofs.WordsLaws.{base_kept, base_none}
use borrow.Author.Rules.{rules}
use Rattle.edge_values.proofs.base.Goals as goal

pub returns-then-c-lt4294967296 : goal.returns-then-c-lt4294967296
returns-then-c-lt4294967296 c = search (base_kept, rules)

pub returns : goal.returns
returns c = search (base_none, rules)
