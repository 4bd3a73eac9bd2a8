-- Document 01, "Figures" (`estimate_with`): per sub-window the minimum across rows first, the sum over sub-windows after.
use Rattle.std.specs.Prelude.{ℕ, ◌+◌, ◌-◌, ◌*◌, ◌/◌, min, Bool, cond, List, leb, eqb, Float, get_or}
use Rattle.std.specs.Float.{binary64}
use Rattle.std.specs.Float.Ieee.{add, mul}
use Rattle.laws.specs.Sums.{least, total}
use Rattle.laws.specs.Figure.{figure}
use Rattle.cell.specs.Cell.{slot_of, pixel_of, shutter_of, unit_of}
use Rattle.clock.specs.Clock.{n_of}
use Rattle.sketch.specs.declared.MicroCm.{MicroCm}
use Rattle.sketch.specs.declared.Reading.{Reading}
use Rattle.sketch.specs.Sketch.{cell_index, cell_of}

-- what a cell says of sub-window j at the present n: c ^ Z × pixel, and the shutter too where j is the present one
unfoldable pub items_in : ℕ → ℕ → ℕ → List ℕ → ℕ → ℕ
items_in t c n b j = cond (eqb j n) (shutter_of t b) 0 + unit_of t c b * pixel_of b (slot_of t j)

-- the key's cell in a row
abbrev pub key_cell : MicroCm → List ℕ → ℕ → ℕ
key_cell k key row = cell_index k row (get_or key row 0)

-- what the key's cell in a row says of sub-window j
abbrev pub row_items : MicroCm → List ℕ → List ℕ → ℕ → ℕ → ℕ
row_items k g key j row = items_in k.params.t k.params.c (n_of k.clock) (cell_of k g (key_cell k key row)) j

-- the minimum across rows, of sub-window j
unfoldable pub least_in : MicroCm → List ℕ → List ℕ → ℕ → ℕ
least_in k g key j = least (k.rows - 1) (row_items k g key j)

-- the same of the sub-window so far back from the present one
abbrev pub least_back : MicroCm → List ℕ → List ℕ → ℕ → ℕ
least_back k g key back = least_in k g key (n_of k.clock - back)

-- the sum over the sub-windows n, n − 1 back to n − most, where not negative
unfoldable pub sum_back : MicroCm → List ℕ → List ℕ → ℕ → ℕ
sum_back k g key most = total (min (n_of k.clock) most) (least_back k g key)

-- UNDER: the present and n − 1 back to n − t + 1
abbrev pub under_of : MicroCm → List ℕ → List ℕ → ℕ
under_of k g key = sum_back k g key (k.params.t - 1)

-- OVER: n − t also, if n ≥ t
abbrev pub over_of : MicroCm → List ℕ → List ℕ → ℕ
over_of k g key = sum_back k g key k.params.t

-- the oldest sub-window, n − t
abbrev pub oldest_of : MicroCm → List ℕ → List ℕ → ℕ
oldest_of k g key = least_back k g key k.params.t

-- there is an oldest sub-window, part of which has left the window
abbrev pub has_oldest : MicroCm → Bool
has_oldest k = leb k.params.t (n_of k.clock)

-- LINEAR: Under + fraction × the oldest term, rounded at the product and at the sum; below n = t it is Under
unfoldable pub linear_of : MicroCm → List ℕ → List ℕ → Float → Float
linear_of k g key fraction =
    cond (has_oldest k) (add binary64 (figure (under_of k g key)) (mul binary64 fraction (figure (oldest_of k g key)))) (figure (under_of k g key))

-- THE SUB-WINDOWS BEGUN (document 02, T-08): the lesser of n + 1 and t
abbrev pub begun_of : MicroCm → ℕ
begun_of k = min (n_of k.clock + 1) k.params.t

-- MEAN (document 02, T-08): Under divided by the sub-windows begun, rounded down
abbrev pub mean_of : MicroCm → List ℕ → List ℕ → ℕ
mean_of k g key = under_of k g key / begun_of k

-- ONE READING with a fraction: every Over and Under figure is below 2 ^ 53, so its f64 is exact
abbrev pub one_reading : MicroCm → List ℕ → List ℕ → Float → Reading
one_reading k g key fraction =
    record { over = figure (over_of k g key); under = figure (under_of k g key); linear = linear_of k g key fraction; fraction = fraction }
