-- `store_bytes::bytes::zeros` meets its contract. The chain asks each byte whether it is 0, and so does the definition.
use Prim.Native.Nat.{ℕ}
use mathlib.Core.Path.{◌∙◌}
use lib.Dec.{eqb}
use Rattle.std.proofs.Common.{rules}
use Rattle.std.proofs.lemmas.Iterator.{YieldsList-from_slice}
use Rattle.std.proofs.lemmas.Iterator.Search.{all_from_yields_List}
use Rattle.store_bytes.proofs.FillLaws.{asked_each}
use Rattle.store_bytes.proofs.bytes.zeros.Goals as goal

pub returns : goal.returns
returns c =
    all_from_yields_List (λ (x : ℕ). eqb x 0) _ _ _ c.all.ensures.ran (YieldsList-from_slice c.args.b.now cc) (λ x b q k. search rules)
    ∙ asked_each c.args.b.now
