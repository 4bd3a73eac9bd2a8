-- `tick`: the worker answers for the clock ticked, whose kind is wrong where it is not of items.
use Rattle.clock.specs.Refusals.{tick_call}
use Rattle.clock_calls.proofs.tick.Goals as goal

pub returns : goal.returns
unfolding tick_call
returns c = cc
