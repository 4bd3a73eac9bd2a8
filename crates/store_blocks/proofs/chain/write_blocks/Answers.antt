use Rattle.store_blocks.proofs.ChainLoops.{filling_on, filling_end}
use borrow.Author.Rules.{rules}
use Rattle.store_blocks.proofs.chain.write_blocks.Goals as goal

pub loop-i-preserved : goal.loop-i-preserved
loop-i-preserved c = search (filling_on, rules)

pub returns : goal.returns
returns c = search (filling_end, rules)
