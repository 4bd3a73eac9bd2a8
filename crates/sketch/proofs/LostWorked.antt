-- The worked example, computed from the definitions by the checker. Assumes nothing.
use mathlib.Core.Path.{refl}
use Rattle.laws.specs.Bytes.{number_of, bytes_of}
use Rattle.laws.specs.Passes.{each_of}
use Rattle.laws.specs.Powers.{highest}
use Rattle.rounding.specs.Draws.{xor_down, xor_up, next_state, yielded, rounded_div}
use Rattle.cell.specs.Cell.{shutter_of, with_shutter, sound_of, max_zoom}
use Rattle.cell.specs.Insertion.{credit_of, insert_of}
use Rattle.cell.specs.Crossing.{close_of, clear_of, emptied, inside_of, ceiling_of, all_at_most, times_each, zoomed_in, zoom_in_from, cross_of}
use Rattle.cell.specs.Merge.{scale_down, add_pair, add_each, cut_each, cut_off, settle_from, merge_of, sums_of}
use Rattle.clock.specs.Clock.{n_of}
use Rattle.sketch.specs.Sketch.{key_cells, count_from, insert_at, insert_each, recorded, cross_each, moved}
use Rattle.sketch.specs.Merge.{merge_each}
use Rattle.sketch.specs.Audit.{first_unsound}
use Rattle.sketch.specs.Refusals.{bits_up_to, grid_fits, all_below, key_fits, update_call, update_at_call, advance_call, merge_call}
use Rattle.sketch.specs.LostExamples.{GridLostWorked}

pub grid_lost_worked : GridLostWorked
unfolding number_of bytes_of each_of highest xor_down xor_up next_state yielded rounded_div shutter_of with_shutter sound_of max_zoom credit_of insert_of close_of clear_of
    emptied inside_of ceiling_of all_at_most times_each zoomed_in zoom_in_from cross_of scale_down add_pair add_each cut_each cut_off settle_from merge_of sums_of
    n_of key_cells count_from insert_at insert_each recorded cross_each moved merge_each first_unsound bits_up_to grid_fits all_below key_fits
    update_call update_at_call advance_call merge_call
grid_lost_worked = record {
  in_both_rows = (refl, refl);
  in_one_row = (refl, refl);
  elsewhere = (refl, refl);
  item_and_crossing = (refl, refl);
  both_close = (refl, refl);
  crossing_and_item = (refl, refl);
  item_alone = (refl, refl);
  far = (refl, refl);
  over_all_cells = (refl, refl);
  refused = (refl, (refl, refl));
}
