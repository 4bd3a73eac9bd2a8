-- `insert_at`: the part that is lent is the cell, and the grid comes back with it replaced. Assumes nothing.
use Rattle.sketch_counting_passes.proofs.RecordingCases.{insert_left}
use borrow.Author.Rules.{rules}
use Rattle.sketch_counting_passes.proofs.worker.insert_at.Goals as goal

pub returns-clause-result_after : goal.returns-clause-result_after
returns-clause-result_after c = search (insert_left, rules)
