-- `layout::derived`: each place is the one that its definition names. Assumes nothing.
use Rattle.cell.specs.Crossing.{ceiling_of}
use Rattle.cell_layout.proofs.fields.derived.Goals as goal

pub returns : goal.returns
unfolding ceiling_of
returns c = cc
