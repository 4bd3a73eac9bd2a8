use Rattle.store_blocks.proofs.ChainLoops.{out_begin, out_copied}
use borrow.Author.Rules.{rules}
use Rattle.store_blocks.proofs.chain.copy_out.Goals as goal

pub loop-i-init : goal.loop-i-init
loop-i-init c = search (out_begin, rules)

pub loop-i-preserved : goal.loop-i-preserved
loop-i-preserved c = search (out_copied, rules)
