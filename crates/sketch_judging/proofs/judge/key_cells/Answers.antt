use Rattle.sketch.proofs.JudgeLoops.{key_found, key_on, key_end}
use Rattle.sketch.proofs.AddressLaws.{key_row}
use borrow.Author.Rules.{rules}
use Rattle.sketch_judging.proofs.judge.key_cells.Goals as goal

pub key_cell-index-requires : goal.key_cell-index-requires
key_cell-index-requires c = (search (key_row, rules), search rules, search rules, search rules)

pub returns-then-not-cell_sound : goal.returns-then-not-cell_sound
returns-then-not-cell_sound c = search (key_found, rules)

pub loop-row-preserved : goal.loop-row-preserved
loop-row-preserved c = search (key_on, rules)

pub returns : goal.returns
returns c = search (key_end, rules)
