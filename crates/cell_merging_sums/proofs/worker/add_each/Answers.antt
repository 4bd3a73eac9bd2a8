use Rattle.cell_merging_sums.proofs.SumLoops.{adding_begin, adding_fits, adding_on, adding_end, adding_low, adding_few}
use native.Mathlib.Omega.{arith}
use borrow.Author.Rules.{rules}
use Rattle.cell_merging_sums.proofs.worker.add_each.Goals as goal

pub loop-i-init : goal.loop-i-init
loop-i-init c = search (adding_begin, rules)

pub overflow_add-draws : goal.overflow_add-draws
overflow_add-draws c = record {
  fits = adding_fits _ _ _ _ _ _ _ _ _ _ c.loop-i.invariant _ (omega arith) (omega arith) c.add_pair-pair.ensures.value (omega arith) (omega arith) (omega arith);
}

pub loop-i-preserved : goal.loop-i-preserved
loop-i-preserved c =
    adding_on _ _ _ _ _ _ _ _ _ _ c.loop-i.invariant _ (omega arith) (omega arith) c.add_pair-pair.ensures.value c.add_pair-pair.ensures.value_bound

pub returns-clause-result_after : goal.returns-clause-result_after
returns-clause-result_after c = adding_end _ _ _ _ _ _ _ _ _ _ c.loop-i.invariant (omega arith)

pub returns-clause-sums_after : goal.returns-clause-sums_after
returns-clause-sums_after c = (adding_low _ _ _ _ _ _ _ _ _ _ c.loop-i.invariant (omega arith), search (adding_few, rules))
