-- `advance_to`: as `update_at` without an item: the clock alone is moved.
use Rattle.sketch_counting.proofs.CallLaws.{advance_refused, advance_stays, advance_crossed}
use Rattle.sketch_counting_items.proofs.KeptLaws.{move_sound}
use mathlib.Core.Path.{ap}
use mathlib.Core.Bool.{not}
use borrow.Author.Rules.{rules}
use Rattle.sketch_counting.proofs.advance_to.Goals as goal

pub returns-then-not-accepted : goal.returns-then-not-accepted
returns-then-not-accepted c = search (advance_refused, rules)

pub returns-then-new-old : goal.returns-then-new-old
returns-then-new-old c = search (advance_stays, rules)

pub cross_cells-crossed-requires : goal.cross_cells-crossed-requires
cross_cells-crossed-requires c = (search (move_sound, rules), search rules)

pub returns : goal.returns
returns c = advance_crossed _ _ _ _ _ _ _ _ _ _ _ _ c.went_on-2.ensures c.cross_cells-crossed.ensures.result_after c.movement-verdict.ensures
    c.accepted.ensures (ap not c.if-not-accepted.false) c.is_count-wrong.ensures c.advanced-after.ensures
    c.sub_window-old.ensures c.sub_window-new.ensures
