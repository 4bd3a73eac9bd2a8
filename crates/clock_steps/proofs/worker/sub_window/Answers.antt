-- `sub_window`: the quotient of `n_of`, from the two numbers that the callees give. Assumes nothing.
use Rattle.clock.proofs.ClockLaws.{no_length_n}
use borrow.Author.Rules.{rules}
use Rattle.clock.specs.Clock.{n_of}
use Rattle.clock_steps.proofs.worker.sub_window.Goals as goal

pub returns-then-length-eq0 : goal.returns-then-length-eq0
returns-then-length-eq0 c = search (no_length_n, rules)

pub returns : goal.returns
unfolding n_of
returns c = cc
