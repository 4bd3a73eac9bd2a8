-- Document 02, T-04, over the lists of calls of document 01, "Band": what each cell loses, and what the calls tell of it.
use Rattle.std.specs.Prelude.{ℕ, ◌+◌, ◌-◌, ◌*◌, ◌<◌, ◌≡◌, cond, List, [], ◌∷◌, get_or}
use Rattle.laws.specs.Sums.{total}
use Rattle.refusal.specs.Refusals.{when_accepted}
use Rattle.cell.specs.Cell.{max_zoom}
use Rattle.cell.specs.Lost.{loses_item, loses_closing, one_if}
use Rattle.clock.specs.Clock.{n_of}
use Rattle.sketch.specs.Sketch.{cell_index, cell_of, World, begins, state_at}
use Rattle.band.specs.Calls.{Call, Settings, fresh, outcome, next}
use Rattle.band.specs.Stages.{Stage, recording, moving, stages_of, done}
use Rattle.band.specs.Tally.{hits}
use Rattle.band.specs.Peak.{peak}
use Rattle.band.specs.Band.{AcceptedSettings, Key, NeverAtTop}

-- the units that the cell at a row and a column loses inside a stage: by an item that the key brings to it, or as its shutter is closed
unfoldable pub lost_inside : World → Stage → ℕ → ℕ → ℕ
lost_inside w (recording key) row col =
    let k = w.sketch in
    cond (hits key row col) (one_if (loses_item k.params.t k.params.c (n_of k.clock) (cell_of k w.grid (cell_index k row col)))) 0
lost_inside w (moving clock) row col =
    let k = w.sketch in
    let j = cell_index k row col in
    one_if (loses_closing k.params.t k.params.c (n_of clock) (begins w clock) (cell_of k w.grid j) (state_at w clock j))

-- inside these stages
unfoldable pub lost_through : World → List Stage → ℕ → ℕ → ℕ
lost_through w [] row col = 0
lost_through w (stage ∷ stages) row col = lost_inside w stage row col + lost_through (done stage w) stages row col

-- THE UNITS THAT A CELL LOSES in a list of calls: a refused call loses none
unfoldable pub lost_in : World → List Call → ℕ → ℕ → ℕ
lost_in w [] row col = 0
lost_in w (call ∷ calls) row col =
    when_accepted (outcome w call).answer.verdict (lost_through w (stages_of w.sketch.clock call) row col) 0 + lost_in (next w call) calls row col

-- WHAT THE CALLS TELL, added up
unfoldable pub lost_told : World → List Call → ℕ
lost_told w [] = 0
lost_told w (call ∷ calls) = (outcome w call).answer.lost + lost_told (next w call) calls

-- over all rows and columns
abbrev pub over_grid : Settings → (ℕ → ℕ → ℕ) → ℕ
over_grid S f = total (S.rows - 1) (λ row. total (S.cols - 1) (f row))

-- THE THEOREM, whatever seed, columns, readings and list of calls, refused ones included
pub record ListsLose : Type 0 where
  -- what the calls tell is what the cells lose
  pub told : (S : Settings) → AcceptedSettings S → (seed : ℕ) (calls : List Call)
      → lost_told (fresh S seed) calls ≡ over_grid S (lost_in (fresh S seed) calls)
  -- a cell that never held max_zoom loses nothing
  pub cell : (S : Settings) → AcceptedSettings S → (seed : ℕ) (calls : List Call) (row col : ℕ) → row < S.rows → col < S.cols
      → peak (fresh S seed) calls (row * S.cols + col) < max_zoom S.params.c → lost_in (fresh S seed) calls row col ≡ 0
  -- so under the condition of demand 3 no cell of the key does
  pub key : (S : Settings) → AcceptedSettings S → (seed : ℕ) (calls : List Call) (key : List ℕ) → Key S key → NeverAtTop S seed calls key
      → (row : ℕ) → row < S.rows → lost_in (fresh S seed) calls row (get_or key row 0) ≡ 0
  -- and where it holds of every cell no call tells of a loss
  pub none : (S : Settings) → AcceptedSettings S → (seed : ℕ) (calls : List Call)
      → ((row col : ℕ) → row < S.rows → col < S.cols → peak (fresh S seed) calls (row * S.cols + col) < max_zoom S.params.c)
      → lost_told (fresh S seed) calls ≡ 0
