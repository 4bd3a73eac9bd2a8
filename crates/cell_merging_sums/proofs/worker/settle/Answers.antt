use Rattle.cell_merging_sums.proofs.SumCases.{settling_fit, settling_few, settling_fits, settling_on, settling_cut, cut_known}
use native.Mathlib.Omega.{arith}
use borrow.Author.Rules.{rules}
use Rattle.cell_merging_sums.proofs.worker.settle.Goals as goal

pub returns-then-all_fit-clause-result_after : goal.returns-then-all_fit-clause-result_after
returns-then-all_fit-clause-result_after c = search (settling_fit, rules)

pub returns-then-all_fit-clause-sums_after : goal.returns-then-all_fit-clause-sums_after
returns-then-all_fit-clause-sums_after c = (search rules, search (settling_few, rules), search rules)

pub overflow_add-draws : goal.overflow_add-draws
overflow_add-draws c = record { fits = search (settling_fits, rules) }

pub loop-target-preserved : goal.loop-target-preserved
loop-target-preserved c =
    settling_on _ _ _ _ _ _ _ _ c.loop-target.invariant _ c.all_fit.ensures c.if-all_fit.false (omega arith) _ _ c.divide_each-divided.ensures (search rules) (search rules)

pub returns-clause-result_after : goal.returns-clause-result_after
returns-clause-result_after c = settling_cut _ _ _ _ _ _ _ _ c.loop-target.invariant (omega arith) _ (search rules) _ _ (search rules) (search rules)

pub returns-clause-sums_after : goal.returns-clause-sums_after
returns-clause-sums_after c = (search (cut_known, rules), search (settling_few, rules), search rules)
