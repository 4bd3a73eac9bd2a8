-- The worked example, computed from the definitions by the checker. Assumes nothing.
use Prim.Native.Nat.{ℕ}
use mathlib.Core.Path.{refl}
use mathlib.Core.List.{List}
use Rattle.laws.specs.Bytes.{number_of}
use Rattle.laws.specs.Powers.{highest}
use Rattle.laws.specs.Sums.{least, total}
use Rattle.cell.specs.Cell.{shutter_of, sound_of, max_zoom}
use Rattle.clock.specs.Clock.{n_of}
use Rattle.sketch.specs.Sketch.{key_cells, count_from}
use Rattle.sketch.specs.Figures.{items_in, least_in, sum_back}
use Rattle.sketch.specs.Audit.{first_unsound}
use Rattle.sketch.specs.Refusals.{bits_up_to, grid_fits, all_below}
use Rattle.codes.specs.Codes.{reached_at, newly, flags_of, code_cells, is_in, those}
use Rattle.codes.specs.Refusals.{codes_fit, kept_fit, set_call, ask_call}
use Rattle.codes.specs.Askings.{after}
use Rattle.codes.specs.Examples.{Worked}

pub worked : (columns limits : List ℕ) → Worked columns limits
unfolding number_of highest least total shutter_of sound_of max_zoom n_of key_cells count_from items_in least_in sum_back first_unsound
    bits_up_to grid_fits all_below reached_at newly flags_of code_cells is_in those codes_fit kept_fit set_call ask_call after
worked columns limits = record {
  no_codes = (refl, refl);
  below = (refl, refl);
  at_the_limit = (refl, refl);
  one = (refl, refl);
  then_other = (refl, refl);
  not_again = (refl, refl);
  fallen = (refl, refl);
  risen_again = (refl, refl);
  set_anew = (refl, refl);
}
