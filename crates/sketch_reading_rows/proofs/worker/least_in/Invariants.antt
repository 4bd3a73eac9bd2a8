-- `least_in`: the least of the rows before this one. Assumes nothing.
use Rattle.sketch_reading_rows.proofs.RowLoops.{Leasting}
use Rattle.sketch_reading_rows.proofs.worker.least_in.Given as goal

abbrev pub invariant-loop-row : goal.invariant-loop-row
invariant-loop-row l = Leasting l.sketch l.grid l.key l.j l.least l.row
