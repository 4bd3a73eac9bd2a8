-- `codes_fit`: the two parts of the test. Assumes nothing.
use Rattle.codes_setting.proofs.SetLaws.{fit_below, fit_uneven}
use borrow.Author.Rules.{rules}
use Rattle.codes_setting.proofs.judge.codes_fit.Goals as goal

pub returns-then-even : goal.returns-then-even
returns-then-even c = search (fit_below, rules)

pub returns-else-even : goal.returns-else-even
returns-else-even c = search (fit_uneven, rules)
