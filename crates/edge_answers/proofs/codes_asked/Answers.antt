-- `codes_asked`. Assumes nothing.
use Rattle.edge_answers.proofs.AnswerLaws.{left, put}
use borrow.Author.Rules.{rules}
use Rattle.edge_answers.proofs.codes_asked.Goals as goal

pub returns-then-not-accepted : goal.returns-then-not-accepted
returns-then-not-accepted c = search (left, rules)

pub returns : goal.returns
returns c = search (put, rules)
