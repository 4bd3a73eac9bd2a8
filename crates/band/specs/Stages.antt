-- Document 01, "Band": an accepted call is a list of stages, each a recording or a move. The tally and the peak go by them.
use Rattle.std.specs.Prelude.{ℕ, List, [], ◌∷◌}
use Rattle.clock.specs.declared.SubWindowClock.{SubWindowClock}
use Rattle.clock.specs.Clock.{tick_of, advance_of}
use Rattle.sketch.specs.Sketch.{World, recorded, moved}
use Rattle.band.specs.Calls.{Call, update, update_at, advance}

-- an item is recorded at these columns and the present n; or the clock becomes this one, and the cells cross by as much as n rises
pub data Stage : Type 0 where
  recording : List ℕ → Stage
  moving : SubWindowClock → Stage

-- from the present clock: `update` records and then ticks; `update_at` moves by its reading and then records; an advance moves alone
abbrev pub stages_of : SubWindowClock → Call → List Stage
stages_of clock (update key) = recording key ∷ moving (tick_of clock) ∷ []
stages_of clock (update_at key reading) = moving (advance_of clock reading) ∷ recording key ∷ []
stages_of clock (advance reading) = moving (advance_of clock reading) ∷ []

-- what a stage does to the sketch and its grid
abbrev pub done : Stage → World → World
done (recording key) w = recorded key w
done (moving clock) w = moved clock w

-- one stage after another
unfoldable pub through : List Stage → World → World
through [] w = w
through (stage ∷ stages) w = through stages (done stage w)
