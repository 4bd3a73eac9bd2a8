-- `levels`: the loop keeps a product that fits a byte, and stops at the zoom or where the next one does not fit. Assumes nothing.
use Rattle.bench_tool_levels.proofs.LevelLaws.{Growing}
use Rattle.bench_tool_levels.proofs.levels.Given as goal

abbrev pub invariant-loop-k : goal.invariant-loop-k
invariant-loop-k l = Growing l.c l.most l.zoom l.grown l.k
