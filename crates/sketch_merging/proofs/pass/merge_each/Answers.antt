-- `merge_each`: the pieces are the cells of both sketches, each of which was judged. Assumes nothing.
use Rattle.sketch.proofs.JudgedLaws.{sound_cells}
use Rattle.sketch_merging.proofs.MergePass.{merged_all}
use borrow.Author.Rules.{rules}
use Rattle.sketch_merging.proofs.pass.merge_each.Goals as goal

pub merge_cells-requires-clause-sound_cells : goal.merge_cells-requires-clause-sound_cells
merge_cells-requires-clause-sound_cells c = (search (sound_cells, rules), search rules)

pub returns : goal.returns
returns c = search (merged_all, rules)
