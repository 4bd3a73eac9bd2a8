-- `power::max_zoom`: each arm is a line of the card. The bases that have a line to themselves are asked for first, 256 among them. Assumes nothing.
use Rattle.cell.proofs.CardLaws.{on_card}
use Prim.Native.Nat.{ℕ, ◌≤◌}
use mathlib.Core.Path.{◌≡◌}
use native.Mathlib.Omega.{arith}
use borrow.Author.Rules.{rules}
use Rattle.cell_judging.proofs.power.max_zoom.Goals as goal

-- the bases that have a line to themselves
module _ (c : ℕ) (low : 2 ≤ c) where
  beyond-alone : (c ≡ 2 → ⊥) → (c ≡ 3 → ⊥) → (c ≡ 4 → ⊥) → (c ≡ 5 → ⊥) → (c ≡ 6 → ⊥) → (c ≡ 7 → ⊥) → 8 ≤ c
  beyond-alone a b d e f g = omega arith

pub returns-in-2 : goal.returns-in-2
returns-in-2 c = on_card 0 _ (omega arith) (search rules) (search rules)

pub returns-in-3 : goal.returns-in-3
returns-in-3 c = on_card 1 _ (omega arith) (search rules) (search rules)

pub returns-in-4 : goal.returns-in-4
returns-in-4 c = on_card 2 _ (omega arith) (search rules) (search rules)

pub returns-in-5 : goal.returns-in-5
returns-in-5 c = on_card 3 _ (omega arith) (search rules) (search rules)

pub returns-in-6 : goal.returns-in-6
returns-in-6 c = on_card 4 _ (omega arith) (search rules) (search rules)

pub returns-in-7 : goal.returns-in-7
returns-in-7 c = on_card 5 _ (omega arith) (search rules) (search rules)

pub returns-in-256 : goal.returns-in-256
returns-in-256 c = on_card 13 _ (omega arith) (search rules) (search rules)

pub returns-in-8-to-9 : goal.returns-in-8-to-9
returns-in-8-to-9 c = on_card 6 _ (omega arith) (search (beyond-alone, rules)) (search rules)

pub returns-in-10-to-11 : goal.returns-in-10-to-11
returns-in-10-to-11 c = on_card 7 _ (omega arith) (search rules) (search rules)

pub returns-in-12-to-15 : goal.returns-in-12-to-15
returns-in-12-to-15 c = on_card 8 _ (omega arith) (search rules) (search rules)

pub returns-in-16-to-23 : goal.returns-in-16-to-23
returns-in-16-to-23 c = on_card 9 _ (omega arith) (search rules) (search rules)

pub returns-in-24-to-40 : goal.returns-in-24-to-40
returns-in-24-to-40 c = on_card 10 _ (omega arith) (search rules) (search rules)

pub returns-in-41-to-84 : goal.returns-in-41-to-84
returns-in-41-to-84 c = on_card 11 _ (omega arith) (search rules) (search rules)

pub returns-in-85-to-255 : goal.returns-in-85-to-255
returns-in-85-to-255 c = on_card 12 _ (omega arith) (search rules) (search rules)
