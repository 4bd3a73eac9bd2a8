-- Whole numbers as f64: the number itself up to 2 ^ 53 (proofs/FigureLaws.antt), rounded once above that.
use Rattle.std.specs.Prelude.{ℕ, pos, Float}
use Rattle.std.specs.Float.{binary64}
use Rattle.std.specs.Float.Ieee.{of_int}

abbrev pub figure : ℕ → Float
figure n = of_int binary64 (pos n)
