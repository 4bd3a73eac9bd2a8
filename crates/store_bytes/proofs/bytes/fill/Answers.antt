-- `store_bytes::bytes::fill` meets its contract. What there is room for is copied, and zeros fill the room behind it.
use Rattle.store_bytes.proofs.FillLaws.{front_copied, filled_behind}
use Rattle.store_bytes.proofs.bytes.fill.Goals as goal

pub returns : goal.returns
returns c =
    filled_behind c.args.b.now c.args.from.now _ _ _ c.min-end.ensures (front_copied c.args.b.now c.args.from.now _ _ c.min-end.ensures c.copy.ensures)
    (c.fill.ensures.after (λ y e. e))
