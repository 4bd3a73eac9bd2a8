use Rattle.codes_asking.proofs.PassLaws.{passing_begin, passing_askable, passing_on}
use borrow.Author.Rules.{rules}
use Rattle.codes_asking.proofs.pass.list_new.Goals as goal

pub loop-code-init : goal.loop-code-init
loop-code-init c = search (passing_begin, rules)

pub code_over-requires : goal.code_over-requires
code_over-requires c = search (passing_askable, rules)

pub loop-code-preserved : goal.loop-code-preserved
loop-code-preserved c = search (passing_on, rules)
