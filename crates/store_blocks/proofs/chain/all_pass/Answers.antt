-- `blocks::chain::all_pass` meets its contract. The chain gives the blocks in a row, each beside its number.
use Prim.Native.Nat.{ℕ, ◌/◌}
use mathlib.Core.Path.{◌∙◌}
use mathlib.Core.List.{List}
use lib.ListN.{length}
use Rattle.std.proofs.Common.{rules}
use Rattle.std.proofs.lemmas.Iterator.Consumers.{YieldsList-from_enumerate}
use Rattle.std.proofs.lemmas.Iterator.Search.{all_from_yields_List}
use Rattle.store_blocks.specs.Blocks.{block_passes}
use Rattle.store_blocks.proofs.ChunkLaws.{chunked, each_passes}
use Rattle.store_blocks.proofs.chain.all_pass.Goals as goal

pub returns : goal.returns
returns c =
    all_from_yields_List (λ (p : ℕ × List ℕ). block_passes p.0 p.1) _ _ _ c.all.ensures.ran
    (YieldsList-from_enumerate (chunked c.args.store.now (cc) (cc)) (cc)) (λ x b q k. search rules)
    ∙ each_passes 0 (length c.args.store.now / 512) c.args.store.now
