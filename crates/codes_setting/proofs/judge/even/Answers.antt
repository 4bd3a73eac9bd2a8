-- `even`: a product is divided by its factor without a rest. Assumes nothing.
use Rattle.codes_setting.proofs.SetLaws.{even_not}
use borrow.Author.Rules.{rules}
use Rattle.codes_setting.proofs.judge.even.Goals as goal

pub returns-else-size-rows-eq0 : goal.returns-else-size-rows-eq0
returns-else-size-rows-eq0 c = search (even_not, rules)
