-- `ask`: what was let pass can be read, and the pass lists it. Assumes nothing.
use Rattle.codes_asking.proofs.JudgeLaws.{ask_refused, pass_room, ask_done}
use borrow.Author.Rules.{rules}
use Rattle.codes_asking.proofs.ask.Goals as goal

pub returns-then-not-accepted : goal.returns-then-not-accepted
returns-then-not-accepted c = search (ask_refused, rules)

pub list_new-found-requires : goal.list_new-found-requires
list_new-found-requires c = search (pass_room, rules)

pub returns : goal.returns
returns c = search (ask_done, rules)
