-- What the workers rely on. The public calls have judged it; no public contract cites this file.
use Rattle.std.specs.Prelude.{ℕ, ◌+◌, List, Float}
use Rattle.std.specs.Float.{binary64}
use Rattle.std.specs.Float.Ieee.{add, mul}
use Rattle.laws.specs.Figure.{figure}
use Rattle.sketch.specs.declared.MicroCm.{MicroCm}
use Rattle.sketch.specs.Figures.{over_of, under_of, one_reading}
use Rattle.sketch_reading_figures.specs.declared.worker.Exact.{Exact}
use Rattle.sketch_reading_figures.specs.declared.worker.Estimated.{Estimated}

-- a whole number n beside its f64
abbrev pub exactly : ℕ → Exact
exactly n = record { whole = n; value = figure n }

-- all figures of a key
abbrev pub estimate_of : MicroCm → List ℕ → List ℕ → Float → Estimated
estimate_of k g key fraction = record { reading = one_reading k g key fraction; over = over_of k g key; under = under_of k g key }

-- below n = t the three figures are one
abbrev pub young_estimate : Exact → Float → Estimated
young_estimate u fraction =
    record { reading = record { over = u.value; under = u.value; linear = u.value; fraction = fraction }; over = u.whole; under = u.whole }

-- Under, and the oldest term beside it
abbrev pub aged_estimate : ℕ → ℕ → Float → Estimated
aged_estimate under oldest fraction =
    record {
      reading = record {
        over = figure (under + oldest);
        under = figure under;
        linear = add binary64 (figure under) (mul binary64 fraction (figure oldest));
        fraction = fraction;
      };
      over = under + oldest;
      under = under;
    }
