-- `all_cells`: the cells before this one are sound, so what is left decides. Assumes nothing.
use Rattle.sketch.proofs.JudgeLoops.{AllLeft}
use Rattle.sketch.specs.Sketch.{cells_of}
use Rattle.sketch_judging.proofs.judge.all_cells.Given as goal

abbrev pub invariant-loop-index : goal.invariant-loop-index
invariant-loop-index l = AllLeft l.sketch l.grid (cells_of l.sketch) l.index
