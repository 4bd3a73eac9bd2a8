-- `power::unit_or_zero`: the first power that passes four bytes is that of max_zoom + 1, so z lies above max_zoom. Assumes nothing.
use Rattle.cell.proofs.PowerLaws.{Climbing}
use Rattle.cell_judging.proofs.power.unit_or_zero.Given as goal

abbrev pub invariant-loop : goal.invariant-loop
invariant-loop l = Climbing l.c l.counter l.power
