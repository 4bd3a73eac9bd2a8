-- `max_zoom`: every cell was judged before the largest zoom is told. Assumes nothing.
use Rattle.sketch_queries.proofs.HighestLaws.{zoom_untold, zoom_ready, zoom_told_lem}
use borrow.Author.Rules.{rules}
use Rattle.sketch_queries.proofs.max_zoom.Goals as goal

pub returns-then-not-accepted : goal.returns-then-not-accepted
returns-then-not-accepted c = search (zoom_untold, rules)

pub zoom-requires : goal.zoom-requires
zoom-requires c = search (zoom_ready, rules)

pub returns : goal.returns
returns c = search (zoom_told_lem, rules)
