-- `judging::sound`: the two fields that decide are read where the layout has them. Assumes nothing.
use Rattle.cell.proofs.SoundLaws.{sound_read}
use borrow.Author.Rules.{rules}
use Rattle.cell_judging.proofs.judge.sound.Goals as goal

pub returns : goal.returns
returns c = search (sound_read, rules)
