-- `code_bad`: the key's verdict names its first unsound cell. Assumes nothing.
use Rattle.codes_asking.proofs.JudgeLaws.{bad_none, bad_named}
use borrow.Author.Rules.{rules}
use Rattle.codes_asking.proofs.judge.code_bad.Goals as goal

pub returns-then-accepted : goal.returns-then-accepted
returns-then-accepted c = search (bad_none, rules)

pub returns : goal.returns
returns c = search (bad_named, rules)
