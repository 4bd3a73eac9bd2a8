-- `blocks::chain::fill_clear` meets its contract. What stands behind the grid is one part of the last block.
use Rattle.store_blocks.proofs.ChainLoops.{fill_is}
use borrow.Author.Rules.{rules}
use Rattle.store_blocks.proofs.chain.fill_clear.Goals as goal

pub returns : goal.returns
returns c = search (fill_is, rules)
