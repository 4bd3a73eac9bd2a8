-- `column_bits`: the one bit that is set is log2; any other number is none of the powers. Assumes nothing.
use Rattle.sketch_judging.proofs.ShapeLaws.{power_told, no_power, great_power}
use borrow.Author.Rules.{rules}
use Rattle.sketch_judging.proofs.judge.column_bits.Goals as goal
use Rattle.sketch_judging.proofs.judge.column_bits.Goals.{else-is_power_of_two-via-then-is_power_of_two+else-cols-le65536, else-is_power_of_two-via-else-is_power_of_two}

pub returns-then-cols-le65536 : goal.returns-then-cols-le65536
returns-then-cols-le65536 c =
    power_told _ _ c.is_power_of_two.ensures _ c.if-is_power_of_two.true c.if-cols-le65536.true c.ilog2.ensures.power_le c.ilog2.ensures.next_power_gt

pub returns-else-is_power_of_two : goal.returns-else-is_power_of_two
returns-else-is_power_of_two c =
    elim c.else-is_power_of_two.branch [
      | else-is_power_of_two-via-then-is_power_of_two+else-cols-le65536 w ↦ (search (great_power, rules), search rules)
      | else-is_power_of_two-via-else-is_power_of_two w ↦ (search (no_power, rules), search rules)
    ]
