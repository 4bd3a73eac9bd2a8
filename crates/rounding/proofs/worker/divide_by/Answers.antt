-- `divide_by`: each way out is a case of `rounded_div`; with a remainder the quotient leaves room for one more. Assumes nothing.
use Rattle.rounding.proofs.DivisionLaws.{whole_case, up_case, down_case, quotient_lt}
use native.Mathlib.Omega.{arith}
use borrow.Author.Rules.{rules}
use Rattle.rounding.proofs.worker.divide_by.Goals as goal

pub returns-then-remainder-eq0 : goal.returns-then-remainder-eq0
returns-then-remainder-eq0 c = search (whole_case, rules)

pub overflow_add-result : goal.overflow_add-result
overflow_add-result c = let drawn = c in
    let uneven = drawn in
    let a = uneven.args in
    omega (arith, quotient_lt a.value a.divisor (search rules) uneven.if-remainder-eq0.false)

pub returns-then-drawn-divisor : goal.returns-then-drawn-divisor
returns-then-drawn-divisor c = search (up_case, rules)

pub returns : goal.returns
returns c = search (down_case, rules)
