-- The worked example, computed from the definitions by the checker. Assumes nothing.
use mathlib.Core.Path.{refl}
use Rattle.laws.specs.Bytes.{number_of}
use Rattle.laws.specs.Powers.{highest}
use Rattle.cell.specs.Cell.{shutter_of, sound_of, max_zoom}
use Rattle.clock.specs.Clock.{n_of}
use Rattle.sketch.specs.Sketch.{key_cells, count_from}
use Rattle.sketch.specs.Audit.{first_unsound}
use Rattle.sketch.specs.Refusals.{bits_up_to, grid_fits, all_below, key_fits}
use Rattle.sketch.specs.Refusals.{update_call, update_at_call, advance_call, read_call, mean_call, highest_call, audit_call, merge_call}
use Rattle.sketch.specs.NamedExamples.{NamedWorked}

pub named_worked : NamedWorked
unfolding number_of highest shutter_of sound_of max_zoom n_of key_cells count_from first_unsound bits_up_to grid_fits all_below key_fits
    update_call update_at_call advance_call read_call mean_call highest_call audit_call merge_call
named_worked = record {
  audit = refl;
  audit_clear = refl;
  highest = refl;
  read = refl;
  read_both = refl;
  read_neither = refl;
  mean = refl;
  update = refl;
  update_crosses = refl;
  update_at = refl;
  update_at_crosses = refl;
  advance = refl;
  advance_crosses = refl;
  merge = refl;
  merge_other = refl;
}
