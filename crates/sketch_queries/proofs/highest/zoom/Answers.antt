use Rattle.sketch_queries.proofs.HighestLaws.{highest_begin, highest_on, highest_end}
use borrow.Author.Rules.{rules}
use Rattle.sketch_queries.proofs.highest.zoom.Goals as goal

pub loop-index-init : goal.loop-index-init
loop-index-init c = search (highest_begin, rules)

pub loop-index-preserved : goal.loop-index-preserved
loop-index-preserved c = search (highest_on, rules)

pub returns : goal.returns
returns c = search (highest_end, rules)
