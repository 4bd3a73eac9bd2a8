-- `store_header::fields::wrong_form` meets its contract. The tests are those of the definition, in its order.
use Rattle.store_header.proofs.FieldWork.{form_wrong, kind_wrong, rest_wrong, time_right, count_judged}
use borrow.Author.Rules.{rules}
use Rattle.store_header.proofs.fields.wrong_form.Goals as goal

pub returns-then-field-ne1 : goal.returns-then-field-ne1
returns-then-field-ne1 c = search (form_wrong, rules)

pub returns-then-kind-gt1 : goal.returns-then-kind-gt1
returns-then-kind-gt1 c = search (kind_wrong, rules)

pub returns-then-not-zeros : goal.returns-then-not-zeros
returns-then-not-zeros c = search (rest_wrong, rules)

pub returns-then-kind-eq0 : goal.returns-then-kind-eq0
returns-then-kind-eq0 c = search (count_judged, rules)

pub returns-else-kind-eq0 : goal.returns-else-kind-eq0
returns-else-kind-eq0 c = search (time_right, rules)
