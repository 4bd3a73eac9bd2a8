-- Document 01, "Band": the tally. It is fed the settings and each call's arguments, and nothing from cells, draws or figures.
use Rattle.std.specs.Prelude.{ℕ, zero, suc, ◌+◌, ◌-◌, min, Bool, false, cond, not, ◌&&◌, List, [], ◌∷◌, eqb, length, get_or}
use Rattle.laws.specs.Sums.{least, total}
use Rattle.clock.specs.declared.SubWindowClock.{SubWindowClock}
use Rattle.clock.specs.Clock.{n_of, is_count, start_of}
use Rattle.sketch.specs.Refusals.{all_below}
use Rattle.band.specs.Calls.{Call, update, update_at, advance, Settings}
use Rattle.band.specs.Stages.{Stage, recording, moving, stages_of}

-- a clock of its own, and for each row, column and sub-window a whole number without upper limit
pub record Tally : Type 0 where
  pub clock : SubWindowClock
  pub items : ℕ → ℕ → ℕ → ℕ

-- whether a call is refused follows from the settings and its arguments alone: 7 for the columns, 8 for the kind of clock
abbrev pub key_accepted : Settings → List ℕ → Bool
key_accepted S key = eqb (length key) S.rows && all_below S.cols key

unfoldable pub accepts : Settings → Call → Bool
accepts S (update key) = key_accepted S key && is_count S.clock
accepts S (update_at key reading) = key_accepted S key && not (is_count S.clock)
accepts S (advance reading) = not (is_count S.clock)

-- the key has this column in this row
unfoldable pub hits : List ℕ → ℕ → ℕ → Bool
hits [] row col = false
hits (x ∷ key) zero col = eqb x col
hits (x ∷ key) (suc row) col = hits key row col

-- 1 more in each row, at the given column and sub-window n
unfoldable pub counted : ℕ → List ℕ → (ℕ → ℕ → ℕ → ℕ) → ℕ → ℕ → ℕ → ℕ
counted n key items row col j = cond (hits key row col && eqb j n) (items row col j + 1) (items row col j)

-- at first the clock is at its start and every number 0
unfoldable pub empty : Settings → Tally
empty S = record { clock = start_of S.clock; items = λ row col j. 0 }

-- a recording counts at the present n; a move is of the clock alone
abbrev pub marked : Tally → Stage → Tally
marked T (recording key) = record { clock = T.clock; items = counted (n_of T.clock) key T.items }
marked T (moving clock) = record { clock = clock; items = T.items }

unfoldable pub marked_each : Tally → List Stage → Tally
marked_each T [] = T
marked_each T (stage ∷ stages) = marked_each (marked T stage) stages

-- an accepted call: its stages, from the tally's own clock
abbrev pub noted : Tally → Call → Tally
noted T call = marked_each T (stages_of T.clock call)

-- a refused call changes nothing
unfoldable pub tallied : Settings → Tally → Call → Tally
tallied S T call = cond (accepts S call) (noted T call) T

unfoldable pub tally_from : Settings → Tally → List Call → Tally
tally_from S T [] = T
tally_from S T (call ∷ calls) = tally_from S (tallied S T call) calls

-- THE TALLY of a list of calls
abbrev pub tally : Settings → List Call → Tally
tally S calls = tally_from S (empty S) calls

-- A KEY'S EXACT FIGURE: for each sub-window from n back to n − t, where not negative, the smallest across rows; these added up
unfoldable pub exact : Settings → Tally → List ℕ → ℕ
exact S T key =
    total (min (n_of T.clock) S.params.t) (λ back. least (S.rows - 1) (λ row. T.items row (get_or key row 0) (n_of T.clock - back)))
