-- `count_based`: the clock is the one that was judged, and the answer carries both.
use Rattle.clock_calls.proofs.count_based.Goals as goal

pub returns : goal.returns
returns c = cc
