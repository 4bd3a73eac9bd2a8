-- `blocks::block::write_block` meets its contract. Three parts, each where the one before it ends, make the block.
use Rattle.store_blocks.proofs.BlockWork.{block_written}
use borrow.Author.Rules.{rules}
use Rattle.store_blocks.proofs.block.write_block.Goals as goal

pub returns : goal.returns
returns c = search (block_written, rules)
