-- `fill_units`: the units of the rows before this one are found. Assumes nothing.
use Rattle.sketch_reading_rows.specs.Workers.{Units}
use Rattle.sketch_reading_rows.proofs.worker.fill_units.Given as goal

abbrev pub invariant-loop-row : goal.invariant-loop-row
invariant-loop-row l = Units l.sketch l.grid l.key l.row l.unit-items
