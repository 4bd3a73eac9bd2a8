-- `put_sketch`. Assumes nothing.
use Rattle.edge_values.proofs.WordsLaws.{count_put, time_put}
use borrow.Author.Rules.{rules}
use Rattle.edge_values.proofs.put_sketch.Goals as goal

pub returns-in-CountBased : goal.returns-in-CountBased
returns-in-CountBased c = search (count_put, rules)

pub returns-in-TimeBased : goal.returns-in-TimeBased
returns-in-TimeBased c = search (time_put, rules)
