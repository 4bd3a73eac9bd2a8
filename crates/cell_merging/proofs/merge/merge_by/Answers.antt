-- `merge_by`: both zooms are at most the target, to which the pixels, the carry and the rest are taken. Assumes nothing.
use Rattle.cell.proofs.MergeLaws.{target_high, target_high', target_low}
use Rattle.cell.proofs.CellLaws.{slot_read}
use Rattle.cell_merging.proofs.MergeCases.{merged_is}
use borrow.Author.Rules.{rules}
use Rattle.cell_merging.proofs.merge.merge_by.Goals as goal

pub sum_up-summed-requires-clause-dst_bound : goal.sum_up-summed-requires-clause-dst_bound
sum_up-summed-requires-clause-dst_bound c = (search (target_high, rules), search (target_high', rules), search (target_low, rules), search (slot_read, rules), search rules)

pub returns : goal.returns
returns c = merged_is _ _ _ _ _ c.larger_zoom-target.ensures _ c.carry_of-carry.ensures _ _ c.requires.pair.1 _ _ _ _
    c.sum_up-summed.ensures.result_after c.store.ensures
