use Rattle.cell_merging_sums.proofs.SumLoops.{flat_begin, flat_on, flat_end, flat_low}
use native.Mathlib.Omega.{arith}
use borrow.Author.Rules.{rules}
use Rattle.cell_merging_sums.proofs.worker.add_flat.Goals as goal

pub loop-i-init : goal.loop-i-init
loop-i-init c = search (flat_begin, rules)

pub loop-i-preserved : goal.loop-i-preserved
loop-i-preserved c =
    let x = c.type_inv.dst c.loop-i.i in
    let y = c.type_inv.src c.loop-i.i in
    flat_on _ _ _ _ c.loop-i.invariant _ _ (omega arith) (omega arith) c.from.ensures c.from-in-loop-i.ensures (omega arith) (omega arith)

pub returns : goal.returns
returns c = (flat_end _ _ _ _ c.loop-i.invariant (omega arith), flat_low _ _ _ _ c.loop-i.invariant (omega arith))
