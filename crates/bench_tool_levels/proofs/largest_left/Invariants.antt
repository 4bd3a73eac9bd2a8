-- `largest_left`: up to a slot the largest is known, and the next slot is one more to compare. Assumes nothing.
use Rattle.bench_tool_levels.proofs.LevelLaws.{Seen}
use Rattle.bench_tool_levels.proofs.largest_left.Given as goal

abbrev pub invariant-loop-slot : goal.invariant-loop-slot
invariant-loop-slot l = Seen l.pixels l.cleared l.most l.slot
