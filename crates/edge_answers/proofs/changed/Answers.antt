-- `changed`. Assumes nothing.
use Rattle.edge_answers.proofs.AnswerLaws.{left, words_kept, words_put}
use borrow.Author.Rules.{rules}
use Rattle.edge_answers.proofs.changed.Goals as goal

pub returns-then-not-accepted : goal.returns-then-not-accepted
returns-then-not-accepted c = search (left, rules)

pub returns-then-sketch-state : goal.returns-then-sketch-state
returns-then-sketch-state c = search (words_kept, rules)

pub returns : goal.returns
returns c = search (words_put, rules)
