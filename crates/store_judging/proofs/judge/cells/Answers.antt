use Rattle.sketch.proofs.JudgeLoops.{all_end}
use Rattle.store_judging.proofs.JudgeWork.{judging_room, judging_found, judging_on}
use borrow.Author.Rules.{rules}
use Rattle.store_judging.proofs.judge.cells.Goals as goal

pub cell_sound-requires : goal.cell_sound-requires
cell_sound-requires c = search (judging_room, rules)

pub returns-then-not-cell_sound : goal.returns-then-not-cell_sound
returns-then-not-cell_sound c = search (judging_found, rules)

pub loop-index-preserved : goal.loop-index-preserved
loop-index-preserved c = search (judging_on, rules)

pub returns : goal.returns
returns c = search (all_end, rules)
