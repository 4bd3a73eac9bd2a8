-- `insert_each`: the rows before this one are done, and the cells of those to come are as they were. Assumes nothing.
use Rattle.sketch_counting_passes.proofs.RecordingLoop.{Recording}
use Rattle.sketch_counting_passes.proofs.worker.insert_each.Given as goal

abbrev pub invariant-loop-row : goal.invariant-loop-row
invariant-loop-row l = Recording l.sketch l.n l.key l.initial.grid l.state l.grid l.after l.draws l.lost l.row
