-- Document 01, "Sketch and grid": where a cell stands, a fresh sketch, and what the accepted calls do.
use Rattle.std.specs.Prelude.{ℕ, zero, suc, ◌+◌, ◌*◌, List, [], ◌∷◌, replicate}
use Rattle.laws.specs.Parts.{part, splice}
use Rattle.laws.specs.Steps.{Step, still, leaving, followed}
use Rattle.laws.specs.Passes.{each_of}
use Rattle.rounding.specs.Draws.{seeded}
use Rattle.cell.specs.declared.MicroParams.{MicroParams}
use Rattle.cell.specs.Cell.{depth_of}
use Rattle.cell.specs.Insertion.{insert_of}
use Rattle.cell.specs.Crossing.{inside_of, cross_of}
use Rattle.clock.specs.declared.SubWindowClock.{SubWindowClock}
use Rattle.clock.specs.Clock.{n_of, tick_of, advance_of, crossed_of, start_of}
use Rattle.sketch.specs.declared.MicroCm.{MicroCm}

-- THE GRID: cells stand by row, then column
abbrev pub cells_of : MicroCm → ℕ
cells_of k = k.rows * k.cols

abbrev pub grid_bytes : MicroCm → ℕ
grid_bytes k = cells_of k * depth_of k.params.t

abbrev pub cell_index : MicroCm → ℕ → ℕ → ℕ
cell_index k row col = row * k.cols + col

-- the bytes of the j-th cell: from its start to its start plus depth
abbrev pub cell_of : MicroCm → List ℕ → ℕ → List ℕ
cell_of k g j = part (j * depth_of k.params.t) (depth_of k.params.t) g

-- the key's cell in each row, from the given row on
unfoldable pub key_cells : MicroCm → ℕ → List ℕ → List ℕ
key_cells k row [] = []
key_cells k row (col ∷ key) = cell_index k row col ∷ key_cells k (suc row) key

-- so many numbers from the first on
unfoldable pub count_from : ℕ → ℕ → List ℕ
count_from first zero = []
count_from first (suc count) = first ∷ count_from (suc first) count

-- every cell, in grid order
abbrev pub all_cells : MicroCm → List ℕ
all_cells k = count_from 0 (cells_of k)

-- A FRESH SKETCH: every byte of the grid 0, seen 0 or now = epoch, and the random state of its seed
abbrev pub fresh_sketch : ℕ → ℕ → MicroParams → SubWindowClock → ℕ → MicroCm
fresh_sketch rows cols params clock seed =
    record { rows = rows; cols = cols; params = params; clock = start_of clock; rounding = record { state = seeded seed } }

abbrev pub fresh_grid : MicroCm → List ℕ
fresh_grid k = replicate (grid_bytes k) 0

-- a sketch with its grid, how many draws led there, and how many units were lost on the way
pub record World : Type 0 where
  pub sketch : MicroCm
  pub grid : List ℕ
  pub draws : ℕ
  pub lost : ℕ

-- the sketch with another clock and another random state
abbrev pub taking : MicroCm → SubWindowClock → ℕ → MicroCm
taking k clock σ = record { rows = k.rows; cols = k.cols; params = k.params; clock = clock; rounding = record { state = σ } }

-- the sketch goes on with this clock, and with what a step on its grid leaves
abbrev pub goes_on : World → SubWindowClock → Step → World
goes_on w clock s =
    record { sketch = taking w.sketch clock s.state; grid = s.bytes; draws = w.draws + s.draws; lost = w.lost + s.lost }

-- an item inserted into the j-th cell
unfoldable pub insert_at : MicroCm → ℕ → ℕ → List ℕ → ℕ → Step
insert_at k n j g σ =
    let s = insert_of k.params.t k.params.c n (cell_of k g j) σ in
    leaving s (splice (j * depth_of k.params.t) (depth_of k.params.t) s.bytes g)

-- into each of these cells in order, drawing one after another from one state
unfoldable pub insert_each : MicroCm → ℕ → List ℕ → List ℕ → ℕ → Step
insert_each k n [] g σ = still g σ
insert_each k n (j ∷ js) g σ = let s = insert_at k n j g σ in followed s (insert_each k n js s.bytes s.state)

-- RECORD the key's cell in each row in order
unfoldable pub recorded : List ℕ → World → World
recorded key w =
    let k = w.sketch in
    goes_on w k.clock (insert_each k (n_of k.clock) (key_cells k 0 key) w.grid k.rounding.state)

-- the j-th cell crosses to n
abbrev pub cross_cell : MicroCm → ℕ → ℕ → ℕ → List ℕ → ℕ → Step
cross_cell k n crossed j b σ = cross_of k.params.t k.params.c n crossed b σ

-- every cell crosses, in grid order, drawing one after another from one state
unfoldable pub cross_each : MicroCm → ℕ → ℕ → List ℕ → ℕ → Step
cross_each k n crossed g σ = each_of (cross_cell k n crossed) (depth_of k.params.t) 0 (cells_of k) g σ

-- MOVE to another clock, and cross by as many sub-windows as begin: by 0 does nothing
unfoldable pub moved : SubWindowClock → World → World
moved clock w =
    let k = w.sketch in
    goes_on w clock (cross_each k (n_of clock) (crossed_of k.clock clock) w.grid k.rounding.state)

-- INSIDE A MOVE: how many sub-windows begin, the state that the j-th cell draws from, as the j cells before it left it, and
-- what it holds before it zooms in
abbrev pub begins : World → SubWindowClock → ℕ
begins w clock = crossed_of w.sketch.clock clock

abbrev pub state_at : World → SubWindowClock → ℕ → ℕ
state_at w clock j =
    let k = w.sketch in
    (each_of (cross_cell k (n_of clock) (begins w clock)) (depth_of k.params.t) 0 j w.grid k.rounding.state).state

abbrev pub inside_at : World → SubWindowClock → ℕ → List ℕ
inside_at w clock j =
    let k = w.sketch in
    (inside_of k.params.t k.params.c (n_of clock) (begins w clock) (cell_of k w.grid j) (state_at w clock j)).bytes

-- `update`: record, tick, then cross if n rose
abbrev pub updated : List ℕ → World → World
updated key w = moved (tick_of w.sketch.clock) (recorded key w)

-- `advance_to`: advance, then cross
abbrev pub advanced : ℕ → World → World
advanced reading w = moved (advance_of w.sketch.clock reading) w

-- `update_at`: advance, cross, then record
abbrev pub updated_at : List ℕ → ℕ → World → World
updated_at key reading w = recorded key (advanced reading w)
