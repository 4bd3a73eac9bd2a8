use Rattle.cell.proofs.PowerLaws.{climbing_begin, next_short, climbing_on, climbing_over, climbing_done, over_limit, two_fits, two_unit}
use borrow.Author.Rules.{rules}
use Rattle.cell_judging.proofs.power.unit_or_zero.Goals as goal

pub unit-requires : goal.unit-requires
unit-requires c = (search rules, search rules, search (two_fits, rules))

pub returns-then-z-le31 : goal.returns-then-z-le31
returns-then-z-le31 c = search (two_unit, rules)

pub returns-else-z-le31 : goal.returns-else-z-le31
returns-else-z-le31 c = search (over_limit, rules)

pub loop-init : goal.loop-init
loop-init c = search (climbing_begin, rules)

pub overflow_mul-power : goal.overflow_mul-power
overflow_mul-power c = record { fits = rw c.from-power.ensures (search (next_short, rules)) }

pub returns-then-power-gt4294967295 : goal.returns-then-power-gt4294967295
returns-then-power-gt4294967295 c =
    let over = rw c.from-power.ensures at c.if-power-gt4294967295.true in
    search (climbing_over, rules)

pub loop-preserved : goal.loop-preserved
loop-preserved c =
    let fits = rw c.from-power.ensures at c.if-power-gt4294967295.false in
    rw c.from-power.ensures (search (climbing_on, rules))

pub returns : goal.returns
returns c = search (climbing_done, rules)
