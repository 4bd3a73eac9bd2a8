-- `Rounding::next_u64`: each way out is a case of `draw_call`. Assumes nothing.
use Rattle.rounding.proofs.CallLaws.{draw_refused, draw_done}
use borrow.Author.Rules.{rules}
use Rattle.rounding.proofs.Rounding.next_u64.Goals as goal

pub returns-then-self-eq0 : goal.returns-then-self-eq0
returns-then-self-eq0 c = search (draw_refused, rules)

pub returns : goal.returns
returns c = search (draw_done, rules)
