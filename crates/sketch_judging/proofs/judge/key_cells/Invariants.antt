-- `key_cells`: the cells of the rows before this one are sound, so what is left decides. Assumes nothing.
use Rattle.sketch.proofs.JudgeLoops.{KeyLeft}
use Rattle.sketch_judging.proofs.judge.key_cells.Given as goal

abbrev pub invariant-loop-row : goal.invariant-loop-row
invariant-loop-row l = KeyLeft l.sketch l.grid l.key l.row
