-- Document 02, T-03: the card that a fitter reads the zoom ceiling from, which is max_zoom.
use Rattle.std.specs.Prelude.{ℕ, ◌≤◌, ◌<◌, ◌≡◌, Bool, cond, ◌&&◌, List, [], ◌∷◌, leb, length, get_or}
use Rattle.cell.specs.Cell.{max_zoom}
use Rattle.cell.specs.Refusals.{max_zoom_call}

-- a line of the card: the bases from the first to the last, and the ceiling that they give
pub record Line : Type 0 where
  pub first : ℕ
  pub last : ℕ
  pub gives : ℕ

abbrev pub line : ℕ → ℕ → ℕ → Line
line first last gives = record { first = first; last = last; gives = gives }

abbrev pub card : List Line
card =
    line 2 2 31 ∷
    line 3 3 20 ∷
    line 4 4 15 ∷
    line 5 5 13 ∷
    line 6 6 12 ∷
    line 7 7 11 ∷
    line 8 9 10 ∷
    line 10 11 9 ∷
    line 12 15 8 ∷
    line 16 23 7 ∷
    line 24 40 6 ∷
    line 41 84 5 ∷
    line 85 255 4 ∷
    line 256 256 3 ∷
    []

abbrev pub stands : Line → ℕ → Bool
stands l c = leb l.first c && leb c l.last

-- LOOKING IT UP: the ceiling of the first line that a base stands in, and 0 if it stands in none
unfoldable pub look_up : List Line → ℕ → ℕ
look_up [] c = 0
look_up (l ∷ lines) c = cond (stands l c) l.gives (look_up lines c)

-- the card's line of this place, from 0
abbrev pub line_at : ℕ → Line
line_at i = get_or card i (line 0 0 0)

-- THE THEOREM
pub record CardSays : Type 0 where
  -- the card gives what the call `max_zoom` does, for every number: for the bases 2 to 256 the largest z with c ^ z ≤ 2 ^ 32 − 1, for others 0
  pub as_called : (c : ℕ) → look_up card c ≡ (max_zoom_call c).zoom
  -- each line is right by itself, wherever one begins to read
  pub each_line : (i c : ℕ) → i < length card → (line_at i).first ≤ c → c ≤ (line_at i).last → (line_at i).gives ≡ max_zoom c
