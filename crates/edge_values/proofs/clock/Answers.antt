-- `clock`. Assumes nothing.
use Rattle.edge_values.proofs.WordsLaws.{kind_count, kind_time, kind_none}
use borrow.Author.Rules.{rules}
use Rattle.edge_values.proofs.clock.Goals as goal

pub returns-then-kind-eq0 : goal.returns-then-kind-eq0
returns-then-kind-eq0 c = search (kind_count, rules)

pub returns-then-kind-eq1 : goal.returns-then-kind-eq1
returns-then-kind-eq1 c = search (kind_time, rules)

pub returns : goal.returns
returns c = search (kind_none, rules)
