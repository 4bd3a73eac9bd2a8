-- `Rounding::unbiased_div_u64`: each way out is a case of `division_call`. Assumes nothing.
use Rattle.rounding.proofs.CallLaws.{state_refused, divisor_refused, division_done}
use borrow.Author.Rules.{rules}
use Rattle.rounding.proofs.Rounding.unbiased_div_u64.Goals as goal

pub returns-then-state-eq0 : goal.returns-then-state-eq0
returns-then-state-eq0 c = search (state_refused, rules)

pub returns-then-divisor-eq0 : goal.returns-then-divisor-eq0
returns-then-divisor-eq0 c = search (divisor_refused, rules)

pub returns : goal.returns
returns c = search (division_done, rules)
