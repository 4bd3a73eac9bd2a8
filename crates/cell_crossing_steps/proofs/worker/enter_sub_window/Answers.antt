-- `enter_sub_window`: a sound cell's unit fits. Assumes nothing.
use Rattle.cell.proofs.SoundLaws.{unit_fits}
use borrow.Author.Rules.{rules}
use Rattle.cell_crossing_steps.proofs.worker.enter_sub_window.Goals as goal

pub unit-unit-requires : goal.unit-unit-requires
unit-unit-requires c = (search rules, search rules, search (unit_fits, rules))
