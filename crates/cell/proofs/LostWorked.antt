-- The worked example, computed from the definitions by the checker. Assumes nothing.
use mathlib.Core.Path.{refl}
use Rattle.laws.specs.Powers.{highest}
use Rattle.laws.specs.Bytes.{number_of, bytes_of}
use Rattle.rounding.specs.Draws.{xor_down, xor_up, next_state, yielded, rounded_div}
use Rattle.cell.specs.Cell.{shutter_of, with_shutter, max_zoom}
use Rattle.cell.specs.Insertion.{divide_each, zoom_out_of, credit_of, insert_of}
use Rattle.cell.specs.Crossing.{close_of, clear_of, emptied, inside_of, ceiling_of, all_at_most, times_each, zoomed_in, zoom_in_from, cross_of}
use Rattle.cell.specs.Merge.{scale_down, add_pair, add_each, cut_each, cut_off, settle_from, merge_of, sums_of}
use Rattle.cell.specs.LostExamples.{LostWorked}

pub lost_worked : LostWorked
unfolding highest number_of bytes_of xor_down xor_up next_state yielded rounded_div shutter_of with_shutter max_zoom divide_each zoom_out_of credit_of insert_of
    close_of clear_of emptied inside_of ceiling_of all_at_most times_each zoomed_in zoom_in_from cross_of
    scale_down add_pair add_each cut_each cut_off settle_from merge_of sums_of
lost_worked = record {
  dropped = λ σ. refl;
  raised = λ σ. refl;
  fits = λ σ. refl;
  elsewhere = λ σ. refl;
  shutter_moves = λ σ. refl;
  closed_up = refl;
  closed_down = refl;
  cleared = λ σ. refl;
  far = λ σ. refl;
  cut = λ σ. refl;
  carried = λ σ. refl;
  raised_and_cut = refl;
  raised_to_fit = refl;
  just_fits = λ σ. refl;
}
