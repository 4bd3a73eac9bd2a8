-- `turned_back`: the literal 0.0 is the figure of 0. Assumes nothing.
use Rattle.laws.proofs.FigureLaws.{zero_is}
use Rattle.sketch_reading.proofs.turned_back.Goals as goal

pub returns : goal.returns
returns c = rw zero_is
