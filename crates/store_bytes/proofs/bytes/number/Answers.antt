-- `store_bytes::bytes::number` meets its contract. Zeros behind the bytes add nothing to the number.
use Rattle.store_bytes.proofs.NumberLaws.{number_read}
use Rattle.laws.proofs.ByteLaws.{number_below}
use lib.ListN.{length}
use borrow.Author.Rules.{rules}
use native.Mathlib.Nat.{le_refl}
use Rattle.store_bytes.proofs.bytes.number.Goals as goal

pub returns-clause-value : goal.returns-clause-value
returns-clause-value c = search (number_read, rules)

pub returns-clause-upper_bound : goal.returns-clause-upper_bound
returns-clause-upper_bound c =
    rw (number_read c.fill.new.b c.args.b.now c.from_le_bytes.result c.requires c.fill.ensures c.from_le_bytes.ensures)
    (number_below (length c.args.b.now) c.args.b.now (le_refl _) (λ i. (c.type_inv.b i).fits))
