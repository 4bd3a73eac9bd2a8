-- `judging::held`: the causes before the cell, and then soundness by what was read. Assumes nothing.
use Rattle.cell.proofs.HeldLaws.{held_sound, held_unsound}
use Prim.Native.Nat.{◌≤◌, ◌<◌}
use native.Mathlib.Omega.{arith}
use borrow.Author.Rules.{rules}
use Rattle.cell_judging.proofs.judge.held.Goals as goal

pub returns-then-from-unit : goal.returns-then-from-unit
returns-then-from-unit c =
    let below : c.shutter-shutter.result < c.unit_or_zero-unit.result = omega arith in
    search (held_sound, rules)

pub returns : goal.returns
returns c =
    let above : c.unit_or_zero-unit.result ≤ c.shutter-shutter.result = omega arith in
    search (held_unsound, rules)
