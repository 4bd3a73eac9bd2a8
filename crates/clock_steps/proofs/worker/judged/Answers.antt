-- `judged`: each way out is what the length's tests leave of `length_verdict`.
use borrow.Author.Rules.{rules}
use native.Mathlib.Omega.{arith}
use Rattle.clock_steps.proofs.StepCases.{length_none, length_long, length_good}
use Rattle.clock_steps.proofs.worker.judged.Goals as goal

pub returns-then-length-lt1 : goal.returns-then-length-lt1
returns-then-length-lt1 c = search (length_none, rules)

pub returns-then-length-gt-LONGEST : goal.returns-then-length-gt-LONGEST
returns-then-length-gt-LONGEST c = length_long c.args.clock _ c.length-length.ensures (omega arith)

pub returns : goal.returns
returns c = length_good c.args.clock _ c.length-length.ensures (omega arith) (omega arith)
