use Rattle.bench_tool_levels.proofs.LevelLaws.{growing_by, growing_stops, growing_ends}
use Rattle.std.proofs.Common.{rules}
use native.Mathlib.Omega.{arith}
use Rattle.bench_tool_levels.proofs.levels.Goals as goal

pub returns-then-grown-gt255 : goal.returns-then-grown-gt255
returns-then-grown-gt255 c =
    (search (growing_stops, rw c.from-base.ensures at c.if-grown-gt255.true, rules), search rules)

pub loop-k-preserved : goal.loop-k-preserved
loop-k-preserved c = growing_by _ _ _ _ _ c.loop-k.invariant _ c.from-base.ensures (omega arith) (search rules)

pub returns : goal.returns
returns c = (search (growing_ends, rules), search rules)
