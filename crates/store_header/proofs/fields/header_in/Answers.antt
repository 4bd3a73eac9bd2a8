-- `store_header::fields::header_in` meets its contract. The form is told first, and then the settings of the sketch that the fields describe.
use Rattle.store_header.proofs.AnswerLaws.{form_told, number_told, sketch_told}
use borrow.Author.Rules.{rules}
use Rattle.store_header.proofs.fields.header_in.Goals as goal

pub returns-then-wrong_form : goal.returns-then-wrong_form
returns-then-wrong_form c = search (form_told, rules)

pub returns-then-not-accepted : goal.returns-then-not-accepted
returns-then-not-accepted c = search (number_told, rules)

pub returns : goal.returns
returns c = search (sketch_told, rules)
