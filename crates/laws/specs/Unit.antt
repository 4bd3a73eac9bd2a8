-- A fraction as f64: a number from 0 to 1. A NaN and the infinities are none; -0.0 is one, since it equals 0.
use Rattle.std.specs.Prelude.{Bool, ◌&&◌, Float}
use Rattle.std.specs.Float.Ieee.{le}
use Rattle.laws.specs.Figure.{figure}

abbrev pub in_unit : Float → Bool
in_unit x = le (figure 0) x && le x (figure 1)
