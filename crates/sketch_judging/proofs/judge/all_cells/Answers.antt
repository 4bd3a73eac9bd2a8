use Rattle.sketch.proofs.JudgeLoops.{all_found, all_on, all_end}
use borrow.Author.Rules.{rules}
use Rattle.sketch_judging.proofs.judge.all_cells.Goals as goal

pub returns-then-not-cell_sound : goal.returns-then-not-cell_sound
returns-then-not-cell_sound c = search (all_found, rules)

pub loop-index-preserved : goal.loop-index-preserved
loop-index-preserved c = search (all_on, rules)

pub returns : goal.returns
returns c = search (all_end, rules)
