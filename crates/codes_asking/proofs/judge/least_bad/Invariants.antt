-- `least_bad`: the smallest of the codes before this one. Assumes nothing.
use mathlib.Core.Path.{◌≡◌}
use Rattle.codes_asking.specs.Workers.{least_bad}
use Rattle.codes_asking.proofs.judge.least_bad.Given as goal

abbrev pub invariant-loop-code : goal.invariant-loop-code
invariant-loop-code l = l.least ≡ least_bad l.sketch l.columns l.grid l.code
