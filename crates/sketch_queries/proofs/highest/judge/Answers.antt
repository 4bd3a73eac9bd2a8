-- `judge`: the sketch, then what its cells say. Assumes nothing.
use Rattle.sketch_queries.proofs.HighestLaws.{passed_ready}
use borrow.Author.Rules.{rules}
use Rattle.sketch_queries.proofs.highest.judge.Goals as goal

pub all_cells-requires : goal.all_cells-requires
all_cells-requires c = search (passed_ready, rules)
