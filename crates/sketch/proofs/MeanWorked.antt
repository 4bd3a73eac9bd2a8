-- The worked example, computed from the definitions by the checker. Assumes nothing.
use mathlib.Core.Path.{refl}
use Rattle.laws.specs.Bytes.{number_of, bytes_of}
use Rattle.laws.specs.Passes.{each_of}
use Rattle.laws.specs.Powers.{highest}
use Rattle.laws.specs.Sums.{least, total}
use Rattle.cell.specs.Cell.{shutter_of, with_shutter, sound_of, max_zoom}
use Rattle.cell.specs.Insertion.{credit_of, insert_of}
use Rattle.cell.specs.Crossing.{cross_of}
use Rattle.clock.specs.Clock.{n_of}
use Rattle.sketch.specs.Sketch.{key_cells, count_from, insert_at, insert_each, recorded, cross_each, moved}
use Rattle.sketch.specs.Figures.{items_in, least_in, sum_back}
use Rattle.sketch.specs.Audit.{first_unsound}
use Rattle.sketch.specs.Refusals.{bits_up_to, grid_fits, all_below, key_fits, read_call, mean_call}
use Rattle.sketch.specs.MeanExamples.{MeanWorked}

pub mean_worked : MeanWorked
unfolding number_of bytes_of each_of highest least total shutter_of with_shutter sound_of max_zoom credit_of insert_of cross_of n_of key_cells count_from insert_at
    insert_each recorded cross_each moved items_in least_in sum_back first_unsound bits_up_to grid_fits all_below key_fits read_call mean_call
mean_worked = record {
  key_on = λ seed. refl;
  first = (refl, refl);
  last_young = (refl, refl);
  first_full = (refl, refl);
  last_full = (refl, refl);
}
