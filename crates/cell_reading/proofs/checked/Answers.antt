-- `checked`: the verdict is that of the settings. Assumes nothing.
use mathlib.Core.Path.{refl}
use Rattle.cell.specs.Refusals.{params_call}
use Rattle.cell_reading.proofs.checked.Goals as goal

pub returns : goal.returns
unfolding params_call
returns c = rw c.settings-verdict.ensures refl
