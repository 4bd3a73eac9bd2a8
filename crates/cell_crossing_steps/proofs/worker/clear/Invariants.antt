-- `clear`: each turn is one clause of `clear_of`, and goes one pixel round the ring. Assumes nothing.
use Rattle.cell_crossing_steps.proofs.CrossingLoops.{Clearing}
use Rattle.cell_crossing_steps.proofs.worker.clear.Given as goal

abbrev pub invariant-loop : goal.invariant-loop
invariant-loop l = Clearing l.t l.initial.cell l.ended l.count l.cell l.at l.counter
