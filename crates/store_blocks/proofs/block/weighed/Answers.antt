use Rattle.store_blocks.proofs.BlockLoops.{weighing_on, weighing_end}
use borrow.Author.Rules.{rules}
use Rattle.store_blocks.proofs.block.weighed.Goals as goal

pub loop-i-preserved : goal.loop-i-preserved
loop-i-preserved c = weighing_on c.args.b.now c.loop-i.sum c.loop-i.i c.loop-i.invariant c.from.result c.loop-i-test.true c.requires (search rules) (search rules)

pub returns : goal.returns
returns c = search (weighing_end, rules)
