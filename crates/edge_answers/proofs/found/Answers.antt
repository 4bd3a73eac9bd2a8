-- `found`. Assumes nothing.
use Rattle.edge_answers.proofs.AnswerLaws.{found_none, found_one}
use borrow.Author.Rules.{rules}
use Rattle.edge_answers.proofs.found.Goals as goal

pub returns-in-Sound : goal.returns-in-Sound
returns-in-Sound c = search (found_none, rules)

pub returns-in-Unsound : goal.returns-in-Unsound
returns-in-Unsound c = search (found_one, rules)
