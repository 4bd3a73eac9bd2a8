-- `store_calls::load` meets its contract. Each way out is what the definition gives there; all is judged before `copy_out`.
use Rattle.store.proofs.LoadWork.{load_damaged, load_long, load_payload, load_header, load_good, load_refused, load_room, load_done}
use borrow.Author.Rules.{rules}
use mathlib.Core.Path.{ap}
use mathlib.Core.Bool.{not}
use Rattle.store_calls.proofs.load.Goals as goal

pub returns-then-not-accepted : goal.returns-then-not-accepted
returns-then-not-accepted c = search (load_damaged, rules)

pub slice_bounds-header_in-end : goal.slice_bounds-header_in-end
slice_bounds-header_in-end c = search (load_long, rules)

pub header_in-header-requires : goal.header_in-header-requires
header_in-header-requires c = search (load_payload, rules)

pub returns-in_default : goal.returns-in_default
returns-in_default c = search (load_header, rules)

pub behind_header-verdict-requires : goal.behind_header-verdict-requires
behind_header-verdict-requires c = search (load_good, rules)

pub returns-then-not-accepted-2 : goal.returns-then-not-accepted-2
returns-then-not-accepted-2 c = search (load_refused, rules)

pub copy_out-requires : goal.copy_out-requires
copy_out-requires c = search (load_room, rules)

pub returns : goal.returns
returns c = load_done _ _ _ _ c.whole-whole.ensures c.accepted.ensures (ap not c.if-not-accepted.false) _
    c.header_in-header.ensures _ c.in-Sketch.is _ _ c.behind_header-verdict.ensures c.accepted-2.ensures
    (ap not c.if-not-accepted-2.false) _ c.copy_out.ensures _ c.undrawn.ensures
