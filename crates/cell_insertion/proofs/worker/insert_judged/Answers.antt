-- `worker::insert_judged`: each way out is a case of `insert_of`; a shutter below its unit leaves room for one more. Assumes nothing.
use Rattle.cell_insertion.proofs.InsertionCases.{insert_below, insert_credits, next_shutter_fits}
use Prim.Native.Nat.{◌+◌, ◌≤◌, ◌<◌}
use native.Mathlib.Omega.{arith}
use borrow.Author.Rules.{rules}
use Rattle.cell_insertion.proofs.worker.insert_judged.Goals as goal

pub overflow_add-shutter : goal.overflow_add-shutter
overflow_add-shutter c =
    let below : c.args.shutter + 1 < c.args.unit = omega arith in
    record { fits = search (next_shutter_fits, rules) }

pub returns-then-from-unit-clause-result_after : goal.returns-then-from-unit-clause-result_after
returns-then-from-unit-clause-result_after c =
    let below : c.args.shutter + 1 < c.args.unit = omega arith in
    search (insert_below, rules)

pub returns-clause-result_after : goal.returns-clause-result_after
returns-clause-result_after c =
    let whole : c.args.unit ≤ c.args.shutter + 1 = omega arith in
    search (insert_credits, rules)
