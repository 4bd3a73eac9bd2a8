-- `plus`: a sum of whole numbers up to 2 ^ 53 is exact in f64. Assumes nothing.
use Rattle.sketch_reading_figures.proofs.FigureLoops.{plus_is}
use borrow.Author.Rules.{rules}
use Rattle.sketch_reading_figures.proofs.worker.plus.Goals as goal

pub returns : goal.returns
returns c = search (plus_is, rules)
