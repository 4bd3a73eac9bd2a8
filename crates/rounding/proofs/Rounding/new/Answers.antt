-- `Rounding::new`: each way out is the case of `seeded` that its test picks. Assumes nothing.
use borrow.Author.Tests.{eq-eqb, ne_eqb}
use Rattle.rounding.specs.Draws.{seeded}
use Rattle.rounding.proofs.Rounding.new.Goals as goal

pub returns-then-seed-eq0 : goal.returns-then-seed-eq0
unfolding seeded
returns-then-seed-eq0 c = simp (eq-eqb _ _ c.if-seed-eq0.true)

pub returns : goal.returns
unfolding seeded
returns c = simp (ne_eqb _ _ c.if-seed-eq0.false)
