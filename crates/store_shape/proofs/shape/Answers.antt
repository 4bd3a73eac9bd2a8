-- `shape`. Assumes nothing.
use Rattle.store_shape.proofs.ShapeWork.{shape_damaged, shape_long, shape_payload, shape_header, shape_good, shape_length, shape_done}
use borrow.Author.Rules.{rules}
use Rattle.store_shape.proofs.shape.Goals as goal

pub returns-then-not-accepted : goal.returns-then-not-accepted
returns-then-not-accepted c = search (shape_damaged, rules)

pub slice_bounds-header_in-end : goal.slice_bounds-header_in-end
slice_bounds-header_in-end c = search (shape_long, rules)

pub header_in-header-requires : goal.header_in-header-requires
header_in-header-requires c = search (shape_payload, rules)

pub returns-in_default : goal.returns-in_default
returns-in_default c = search (shape_header, rules)

pub grid_bytes-size-requires : goal.grid_bytes-size-requires
grid_bytes-size-requires c = search (shape_good, rules)

pub returns-then-store-store_bytes : goal.returns-then-store-store_bytes
returns-then-store-store_bytes c = search (shape_length, rules)

pub returns : goal.returns
returns c = search (shape_done, rules)
