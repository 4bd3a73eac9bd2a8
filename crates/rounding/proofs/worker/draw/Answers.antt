-- `draw`: the state is the callee's, and the product is `yielded`. Assumes nothing.
use Rattle.rounding.specs.Draws.{yielded}
use Rattle.rounding.proofs.worker.draw.Goals as goal

pub returns : goal.returns
unfolding yielded
returns c = cc
