-- `store_judging::judge::cells` meets its contract. What is left to judge decides, since all before it is sound (`AllLeft`).
use Rattle.sketch.proofs.JudgeLoops.{AllLeft}
use Rattle.store.specs.Refusals.{grid_in}
use Rattle.store_judging.proofs.judge.cells.Given as goal

abbrev pub invariant-loop-index : goal.invariant-loop-index
invariant-loop-index l = AllLeft l.sketch (grid_in l.sketch l.store) l.count l.index
