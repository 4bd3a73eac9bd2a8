-- `layout::shutter`: the four bytes as a number are the one that the definition names. Assumes nothing.
use Rattle.cell.proofs.LayoutLaws.{shutter_read}
use mathlib.Core.Path.{refl, ◌∙◌}
use Rattle.cell_layout.proofs.fields.shutter.Goals as goal

pub returns : goal.returns
returns c = c.from_le_bytes.ensures ∙ shutter_read _ _ _ _ _ _ refl refl refl refl
