-- `all_at_most`: every pixel before the index has passed the test. Assumes nothing.
use Rattle.cell.specs.Crossing.{all_at_most}
use mathlib.Core.Path.{◌≡◌}
use lib.ListN.{drop}
use Rattle.cell_crossing_steps.proofs.worker.all_at_most.Given as goal

abbrev pub invariant-loop-pixel : goal.invariant-loop-pixel
invariant-loop-pixel l = all_at_most l.most l.pixels ≡ all_at_most l.most (drop l.pixel-index l.pixels)
