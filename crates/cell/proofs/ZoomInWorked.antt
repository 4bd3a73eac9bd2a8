-- The worked example, computed from the definitions by the checker. Assumes nothing.
use mathlib.Core.Path.{refl}
use Rattle.laws.specs.Sums.{largest}
use Rattle.laws.specs.Powers.{highest}
use Rattle.laws.specs.Bytes.{number_of, bytes_of}
use Rattle.rounding.specs.Draws.{xor_down, xor_up, next_state, yielded, rounded_div}
use Rattle.cell.specs.Cell.{shutter_of, with_shutter, max_zoom}
use Rattle.cell.specs.Insertion.{divide_each, zoom_out_of, credit_of}
use Rattle.cell.specs.Crossing.{close_of, clear_of, emptied, inside_of, ceiling_of, all_at_most, times_each, zoomed_in, zoom_in_from, cross_of}
use Rattle.cell.specs.ZoomIn.{levels_up_to}
use Rattle.cell.specs.ZoomInExamples.{ZoomInWorked}

pub zoom_in_worked : ZoomInWorked
unfolding largest highest number_of bytes_of xor_down xor_up next_state yielded rounded_div shutter_of with_shutter max_zoom divide_each zoom_out_of credit_of
    close_of clear_of emptied inside_of ceiling_of all_at_most times_each zoomed_in zoom_in_from cross_of levels_up_to
zoom_in_worked = record {
  just_fits = λ σ. (refl, refl, refl);
  just_over = λ σ. (refl, refl, refl);
  to_the_brim = λ σ. (refl, refl, refl);
  by_three = λ σ. (refl, refl, refl);
  at_most_zoom = λ σ. (refl, refl, refl);
  uncovered = λ σ. (refl, refl, refl);
  uncovered_last = λ σ. (refl, refl, refl);
  cleared_first = λ σ. (refl, refl, refl);
  raised_first = (refl, refl, refl);
  all_zero = λ σ. (refl, refl, refl);
  by_none = λ σ. refl;
}
