-- `estimate_from`: below n = t the figures are one; from there on the oldest term stands beside Under. Assumes nothing.
use Rattle.sketch_reading_figures.proofs.EstimateCases.{young_is, old_is}
use borrow.Author.Rules.{rules}
use Rattle.sketch_reading_figures.proofs.worker.estimate_from.Goals as goal

pub returns-then-n-t : goal.returns-then-n-t
returns-then-n-t c = search (young_is, rules)

pub returns : goal.returns
returns c = search (old_is, rules)
