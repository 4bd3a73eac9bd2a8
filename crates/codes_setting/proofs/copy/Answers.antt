use Rattle.codes_setting.proofs.SetLaws.{copying_on}
use borrow.Author.Rules.{rules}
use Rattle.codes_setting.proofs.copy.Goals as goal

pub loop-i-preserved : goal.loop-i-preserved
loop-i-preserved g c = search (copying_on, rules)
