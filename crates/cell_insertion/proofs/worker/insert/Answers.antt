-- `worker::insert`: at zoom 0 an item is a unit; else a sound cell has a unit that fits. Assumes nothing.
use Rattle.cell.proofs.SoundLaws.{unit_fits}
use Rattle.cell_insertion.proofs.InsertionCases.{insert_flat, flat_gained}
use borrow.Author.Rules.{rules}
use Rattle.cell_insertion.proofs.worker.insert.Goals as goal

pub returns-then-pixel-lt255-clause-result_after : goal.returns-then-pixel-lt255-clause-result_after
returns-then-pixel-lt255-clause-result_after c = search (flat_gained, rules)

pub returns-then-zoom-eq0-clause-result_after : goal.returns-then-zoom-eq0-clause-result_after
returns-then-zoom-eq0-clause-result_after c = search (insert_flat, rules)

pub unit-unit-requires : goal.unit-unit-requires
unit-unit-requires c = (search rules, search rules, search (unit_fits, rules))
