-- `key_fits`: one column a row, and each below cols. Assumes nothing.
use Rattle.sketch.proofs.SettingsCases.{key_length, key_other}
use borrow.Author.Rules.{rules}
use Rattle.sketch_judging.proofs.judge.key_fits.Goals as goal

pub returns-then-key-sketch : goal.returns-then-key-sketch
returns-then-key-sketch c = search (key_length, rules)

pub returns-else-key-sketch : goal.returns-else-key-sketch
returns-else-key-sketch c = search (key_other, rules)
