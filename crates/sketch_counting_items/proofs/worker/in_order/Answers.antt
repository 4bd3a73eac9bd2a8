-- `in_order`: what was judged still holds at each step, and the steps are those of `item_of`.
use Rattle.sketch_counting_items.proofs.ItemLaws.{order_done}
use Rattle.sketch_counting_items.proofs.KeptLaws.{before_sound, between_readable, last_sound, few_draws, few_lost}
use borrow.Author.Rules.{rules}
use Rattle.sketch_counting_items.proofs.worker.in_order.Goals as goal

pub moved-before-requires : goal.moved-before-requires
moved-before-requires c = (search (before_sound, rules), search rules)

pub insert_each-recorded-requires : goal.insert_each-recorded-requires
insert_each-recorded-requires c = search (between_readable, rules)

pub moved-last-requires : goal.moved-last-requires
moved-last-requires c = last_sound _ _ _ _ _ _ _ _ c.insert_each-recorded.ensures.result_after c.moved-before.ensures.result_after (search rules)

pub in_a_row-requires-clause-draws_bound : goal.in_a_row-requires-clause-draws_bound
in_a_row-requires-clause-draws_bound c = search (few_draws, rules)

pub in_a_row-requires-clause-lost_bound : goal.in_a_row-requires-clause-lost_bound
in_a_row-requires-clause-lost_bound c = search (few_lost, rules)

pub returns : goal.returns
returns c = search (order_done, rules)
