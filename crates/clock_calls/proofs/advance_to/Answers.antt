-- `advance_to`: the worker answers for the clock advanced, whose kind is wrong where it is of items.
use Rattle.clock.specs.Refusals.{advance_call}
use Rattle.clock_calls.proofs.advance_to.Goals as goal

pub returns : goal.returns
unfolding advance_call
returns c = cc
