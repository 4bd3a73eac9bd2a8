use Rattle.sketch_counting_passes.proofs.RecordingLoop.{row_sound, recording_on}
use Rattle.sketch_counting_passes.proofs.RecordingLoop.{recording_end, drawn_few, lost_few}
use Rattle.sketch.proofs.AddressLaws.{key_row}
use borrow.Author.Rules.{rules}
use Rattle.sketch_counting_passes.proofs.worker.insert_each.Goals as goal

pub key_cell-index-requires : goal.key_cell-index-requires
key_cell-index-requires c = (search (key_row, rules), search rules, search rules, search rules)

pub insert_at-drawn-requires-clause-index_value : goal.insert_at-drawn-requires-clause-index_value
insert_at-drawn-requires-clause-index_value c = search (row_sound, rules)

pub loop-row-preserved : goal.loop-row-preserved
loop-row-preserved c = search (recording_on, rules)

pub returns-clause-result_after : goal.returns-clause-result_after
returns-clause-result_after c = search (recording_end, rules)

pub returns-clause-draws_bound : goal.returns-clause-draws_bound
returns-clause-draws_bound c = (search (drawn_few, rules), search (lost_few, rules))
