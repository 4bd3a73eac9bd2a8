-- Document 01, "Band": the statement of demand 3.
use Rattle.std.specs.Prelude.{ℕ, ◌+◌, ◌-◌, ◌*◌, ◌^◌, ◌<◌, min, ◌≡◌, List, length, get_or}
use Rattle.refusal.specs.declared.Verdict.TheVariants.{Accepted}
use Rattle.laws.specs.Sums.{largest}
use Rattle.laws.specs.Within.{Within}
use Rattle.cell.specs.Cell.{max_zoom}
use Rattle.clock.specs.Clock.{n_of}
use Rattle.sketch.specs.Sketch.{World}
use Rattle.sketch.specs.Figures.{over_of}
use Rattle.sketch.specs.Refusals.{refuse_settings}
use Rattle.band.specs.Calls.{Call, Settings, fresh, run}
use Rattle.band.specs.Tally.{Tally, tally, exact}
use Rattle.band.specs.Peak.{peak}

-- any settings that a fresh start accepts
abbrev pub AcceptedSettings : Settings → Type 0
AcceptedSettings S = refuse_settings S.rows S.cols S.params S.clock Accepted ≡ Accepted

-- a key is one column a row, each below cols
pub record Key (S : Settings) (key : List ℕ) : Type 0 where
  pub each_row : length key ≡ S.rows
  pub each_low : (row : ℕ) → row < S.rows → get_or key row 0 < S.cols

-- the sketch and its grid after the calls
abbrev pub after : Settings → ℕ → List Call → World
after S seed calls = run (fresh S seed) calls

-- the highest zoom that the key's cell in a row ever held
abbrev pub peak_in : Settings → ℕ → List Call → List ℕ → ℕ → ℕ
peak_in S seed calls key row = peak (fresh S seed) calls (row * S.cols + get_or key row 0)

-- M: the highest zoom that the key's cells ever held
abbrev pub highest_held : Settings → ℕ → List Call → List ℕ → ℕ
highest_held S seed calls key = largest (S.rows - 1) (peak_in S seed calls key)

-- no cell of the key ever held max_zoom
abbrev pub NeverAtTop : Settings → ℕ → List Call → List ℕ → Type 0
NeverAtTop S seed calls key = (row : ℕ) → row < S.rows → peak_in S seed calls key row < max_zoom S.params.c

-- k: how many sub-windows the figure covers
abbrev pub covered : Settings → Tally → ℕ
covered S T = min (n_of T.clock) S.params.t + 1

-- (2 k − 1) × (c ^ M − 1)
abbrev pub band_width : ℕ → ℕ → ℕ → ℕ
band_width k c m = (2 * k - 1) * (c ^ m - 1)

-- the Over figure of a key after the calls
abbrev pub over_after : Settings → ℕ → List Call → List ℕ → ℕ
over_after S seed calls key = over_of (after S seed calls).sketch (after S seed calls).grid key

-- DEMAND 3: whatever seed, columns, readings and list of calls, refused ones included
abbrev pub Demand3 : Type 0
Demand3 =
    (S : Settings) → AcceptedSettings S → (seed : ℕ) (calls : List Call) (key : List ℕ) → Key S key → NeverAtTop S seed calls key
    → Within (band_width (covered S (tally S calls)) S.params.c (highest_held S seed calls key)) (over_after S seed calls key) (exact S (tally S calls) key)
