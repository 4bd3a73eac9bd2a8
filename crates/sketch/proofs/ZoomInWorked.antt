-- The worked example, computed from the definitions by the checker. Assumes nothing.
use mathlib.Core.Path.{refl}
use Rattle.laws.specs.Bytes.{number_of, bytes_of}
use Rattle.laws.specs.Passes.{each_of}
use Rattle.laws.specs.Powers.{highest}
use Rattle.rounding.specs.Draws.{xor_down, xor_up, next_state, yielded, rounded_div}
use Rattle.cell.specs.Cell.{shutter_of, with_shutter, sound_of, max_zoom}
use Rattle.cell.specs.Insertion.{credit_of, insert_of}
use Rattle.cell.specs.Crossing.{close_of, clear_of, inside_of, ceiling_of, all_at_most, times_each, zoomed_in, zoom_in_from, cross_of}
use Rattle.clock.specs.Clock.{n_of}
use Rattle.sketch.specs.Sketch.{key_cells, count_from, insert_at, insert_each, recorded, cross_each, moved}
use Rattle.sketch.specs.Audit.{first_unsound}
use Rattle.sketch.specs.Refusals.{bits_up_to, grid_fits, all_below, key_fits, update_call, advance_call}
use Rattle.sketch.specs.ZoomInExamples.{GridZoomInWorked}

pub grid_zoom_in_worked : GridZoomInWorked
unfolding number_of bytes_of each_of highest xor_down xor_up next_state yielded rounded_div shutter_of with_shutter sound_of max_zoom credit_of insert_of close_of clear_of
    inside_of ceiling_of all_at_most times_each zoomed_in zoom_in_from cross_of n_of key_cells count_from insert_at insert_each recorded cross_each moved
    first_unsound bits_up_to grid_fits all_below key_fits update_call advance_call
grid_zoom_in_worked = record {
  one_after_another = (refl, refl, refl);
  by_two = (refl, refl);
  item_first = (refl, refl);
}
