-- Item 10 of the bench sheet and the items beside it, computed from the definitions by the checker. Assumes nothing.
use mathlib.Core.Path.{refl}
use lib.Ieee.{of_int, add, sub, mul, div}
use Rattle.laws.specs.Powers.{highest}
use Rattle.laws.specs.Bytes.{number_of, bytes_of}
use Rattle.laws.specs.Passes.{each_of}
use Rattle.laws.specs.Sums.{least, total}
use Rattle.rounding.specs.Draws.{rounded_div}
use Rattle.cell.specs.Cell.{shutter_of, with_shutter, max_zoom}
use Rattle.cell.specs.Insertion.{divide_each, zoom_out_of, credit_of, insert_of}
use Rattle.cell.specs.Crossing.{close_of, clear_of, emptied, inside_of, ceiling_of, all_at_most, times_each, zoomed_in, zoom_in_from, cross_of}
use Rattle.clock.specs.Clock.{n_of, fraction_of}
use Rattle.sketch.specs.Sketch.{key_cells, insert_at, insert_each, recorded, cross_each, moved}
use Rattle.sketch.specs.Figures.{items_in, least_in, sum_back, linear_of}
use Rattle.sketch.specs.BenchSheet.{SketchItems}

pub sketch_items : SketchItems
unfolding recorded insert_each insert_at key_cells moved cross_each each_of n_of fraction_of insert_of credit_of zoom_out_of divide_each cross_of inside_of close_of
    clear_of emptied zoom_in_from zoomed_in times_each all_at_most ceiling_of rounded_div shutter_of with_shutter number_of bytes_of max_zoom highest items_in
    least_in sum_back linear_of least total of_int add sub mul div
sketch_items = record {
  item_10 = λ seed. (refl, refl, refl, refl);
  two_rows = λ seed. refl;
  halves = λ seed. (refl, refl);
}
