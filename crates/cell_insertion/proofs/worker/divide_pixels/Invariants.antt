-- `worker::divide_pixels`: a turn divides the next pixel, and makes at most one draw. Assumes nothing.
use Rattle.cell_insertion.proofs.DividingLaws.{Dividing}
use Rattle.cell_insertion.proofs.worker.divide_pixels.Given as goal

abbrev pub invariant-loop-i : goal.invariant-loop-i
invariant-loop-i l = Dividing l.c l.slot l.initial.pixels l.state l.pixels l.after l.draws l.i
