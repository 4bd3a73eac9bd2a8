-- `store_judging::judge::cell_sound` meets its contract. The five bytes that are read are the fields of the cell that the store carries there.
use Rattle.store_judging.proofs.JudgeWork.{cell_read}
use borrow.Author.Rules.{rules}
use Rattle.store_judging.proofs.judge.cell_sound.Goals as goal

pub returns : goal.returns
returns c = search (cell_read, rules)
