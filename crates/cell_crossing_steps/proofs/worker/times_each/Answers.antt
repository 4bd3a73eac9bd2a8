use Rattle.cell_crossing_steps.proofs.CrossingLoops.{timing_begin, timing_32, timing_8, timing_on, timing_end}
use borrow.Author.Rules.{rules}
use Rattle.cell_crossing_steps.proofs.worker.times_each.Goals as goal

pub loop-pixel-init : goal.loop-pixel-init
loop-pixel-init c = search (timing_begin, rules)

pub overflow_mul-pixel : goal.overflow_mul-pixel
overflow_mul-pixel c = record { fits = search (timing_32, rules) }

pub overflow_cast-pixel : goal.overflow_cast-pixel
overflow_cast-pixel c = record { fits = search (timing_8, rules) }

pub loop-pixel-preserved : goal.loop-pixel-preserved
loop-pixel-preserved c = search (timing_on, rules)

pub returns : goal.returns
returns c = search (timing_end, rules)
