use Rattle.laws.proofs.PassLaws.{going_on, going_end}
use Rattle.sketch_merging.proofs.MergePass.{pair_drew, pair_light, pair_step}
use borrow.Author.Rules.{rules}
use Rattle.sketch_merging.proofs.pass.merge_cells.Goals as goal

pub loop-preserved : goal.loop-preserved
loop-preserved c = (search (going_on, pair_step, pair_drew, pair_light, rules), search rules)

pub returns : goal.returns
returns c = search (going_end, rules)
