-- `set_codes`: a list that was let pass has room, and both copies are made. Assumes nothing.
use Rattle.codes_setting.proofs.SetLaws.{set_refused, columns_room, set_done}
use borrow.Author.Rules.{rules}
use Rattle.codes_setting.proofs.set_codes.Goals as goal

pub returns-then-not-accepted : goal.returns-then-not-accepted
returns-then-not-accepted c = search (set_refused, rules)

pub slice_bounds-copy-end : goal.slice_bounds-copy-end
slice_bounds-copy-end c = search (columns_room, rules)

pub returns : goal.returns
returns c = search (set_done, rules)
