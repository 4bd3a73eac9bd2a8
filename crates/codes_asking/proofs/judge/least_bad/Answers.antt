use Rattle.codes_asking.proofs.JudgeLaws.{searching_begin, placed_of, searching_on}
use borrow.Author.Rules.{rules}
use Rattle.codes_asking.proofs.judge.least_bad.Goals as goal

pub loop-code-init : goal.loop-code-init
loop-code-init c = search (searching_begin, rules)

pub code_bad-requires : goal.code_bad-requires
code_bad-requires c = search (placed_of, rules)

pub loop-code-preserved : goal.loop-code-preserved
loop-code-preserved c = search (searching_on, rules)
