-- `params`. Assumes nothing.
use Rattle.edge_values.proofs.params.Goals as goal

pub returns : goal.returns
returns c = cc
