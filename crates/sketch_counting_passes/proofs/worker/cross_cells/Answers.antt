use Rattle.sketch_counting_passes.proofs.CrossingPass.{crossing_on, crossing_end, piece_light, loss_room, few_each}
use borrow.Author.Rules.{rules}
use Rattle.sketch_counting_passes.proofs.worker.cross_cells.Goals as goal

pub overflow_add-lost : goal.overflow_add-lost
overflow_add-lost c = record { fits = search (loss_room, piece_light, rules) }

pub loop-index-preserved : goal.loop-index-preserved
loop-index-preserved c = search (crossing_on, few_each, piece_light, rules)

pub returns-clause-result_after : goal.returns-clause-result_after
returns-clause-result_after c = search (crossing_end, rules)
