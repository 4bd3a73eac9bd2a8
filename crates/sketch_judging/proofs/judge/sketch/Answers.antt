-- `sketch`: where the numbers are accepted the grid's length is a product that fits. Assumes nothing.
use Rattle.sketch_judging.proofs.ShapeLaws.{shape_fits, size_fits}
use borrow.Author.Rules.{rules}
use Rattle.sketch_judging.proofs.judge.sketch.Goals as goal

pub overflow_mul-sketch : goal.overflow_mul-sketch
overflow_mul-sketch c = record { fits = search (shape_fits, rules) }

pub overflow_mul-sketch-2 : goal.overflow_mul-sketch-2
overflow_mul-sketch-2 c = record { fits = search (size_fits, rules) }
