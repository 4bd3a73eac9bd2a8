-- Document 01, "Band": the listed calls, in any order and with any arguments, each by the definition that its function's contract cites.
use Rattle.std.specs.Prelude.{ℕ, List, [], ◌∷◌}
use Rattle.cell.specs.declared.MicroParams.{MicroParams}
use Rattle.clock.specs.declared.SubWindowClock.{SubWindowClock}
use Rattle.sketch.specs.Sketch.{fresh_sketch, fresh_grid, World}
use Rattle.sketch.specs.Refusals.{SketchOutcome, world, update_call, update_at_call, advance_call}

pub data Call : Type 0 where
  update : List ℕ → Call
  update_at : List ℕ → ℕ → Call
  advance : ℕ → Call

-- what a fresh start is given; the clock says its kind, length and epoch
pub record Settings : Type 0 where
  pub rows : ℕ
  pub cols : ℕ
  pub params : MicroParams
  pub clock : SubWindowClock

-- a fresh sketch of any seed, with its grid
abbrev pub fresh : Settings → ℕ → World
fresh S seed =
    let k = fresh_sketch S.rows S.cols S.params S.clock seed in world k (fresh_grid k)

-- everything that a call gives and leaves
abbrev pub outcome : World → Call → SketchOutcome
outcome w (update key) = update_call w.sketch key w.grid
outcome w (update_at key reading) = update_at_call w.sketch key reading w.grid
outcome w (advance reading) = advance_call w.sketch reading w.grid

-- the sketch and the grid, as a call returned and left them and the next one finds them
abbrev pub next : World → Call → World
next w call = world (outcome w call).answer.sketch (outcome w call).grid

-- the calls of a list one after another
unfoldable pub run : World → List Call → World
run w [] = w
run w (call ∷ calls) = run (next w call) calls
