-- `same_frame`: each pair of variants is a case of `same_frame`.
use borrow.Author.Rules.{rules}
use Rattle.clock_steps.proofs.StepCases.{frame_count, frame_length, frame_epoch}
use Rattle.clock_steps.proofs.same_frame.Goals as goal

pub returns-in-CountBased-other : goal.returns-in-CountBased-other
returns-in-CountBased-other c = search (frame_count, rules)

pub returns-then-mine-theirs : goal.returns-then-mine-theirs
returns-then-mine-theirs c = search (frame_epoch, rules)

pub returns-else-mine-theirs : goal.returns-else-mine-theirs
returns-else-mine-theirs c = search (frame_length, rules)
