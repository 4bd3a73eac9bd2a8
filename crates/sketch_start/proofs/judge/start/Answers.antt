-- `start`: the settings, then the grid's length. Assumes nothing.
use Rattle.sketch.proofs.FreshLaws.{fresh_settings, fresh_cells, fresh_short, fresh_bytes, fresh_accepted, fresh_size}
use borrow.Author.Rules.{rules}
use Rattle.sketch_start.proofs.judge.start.Goals as goal

pub returns-then-not-accepted : goal.returns-then-not-accepted
returns-then-not-accepted c = search (fresh_settings, rules)

pub overflow_mul-rows : goal.overflow_mul-rows
overflow_mul-rows c = record { fits = search (fresh_cells, rules) }

pub depth-requires : goal.depth-requires
depth-requires c = search (fresh_short, rules)

pub overflow_mul-rows-2 : goal.overflow_mul-rows-2
overflow_mul-rows-2 c = record { fits = search (fresh_bytes, rules) }

pub returns-then-size-rows : goal.returns-then-size-rows
returns-then-size-rows c = search (fresh_accepted, rules)

pub returns : goal.returns
returns c = search (fresh_size, rules)
