-- Document 02, T-01, worked by hand: one row of two cells with t = 1, at n = 0, so that the Over figure of a column is the first byte of its
-- cell. Code 0 is column 0 with limit 2, code 1 is column 1 with limit 1. The list that is lent holds two 9s.
use Rattle.std.specs.Prelude.{ℕ, ◌≡◌, List, [], ◌∷◌}
use Rattle.clock.specs.declared.SubWindowClock.TheVariants.{CountBased}
use Rattle.sketch.specs.declared.MicroCm.{MicroCm}
use Rattle.codes.specs.Askings.{Kept, none_kept, setting, asking, after, asked_at}

abbrev pub sketch : MicroCm
sketch = record { rows = 1; cols = 2; params = record { t = 1; c = 2 }; clock = CountBased 1000 0; rounding = record { state = 1 } }

-- so many items in column 0, and so many in column 1
abbrev pub grid : ℕ → ℕ → List ℕ
grid a b = a ∷ 0 ∷ 0 ∷ 0 ∷ 0 ∷ 0 ∷ 0 ∷ 0 ∷ b ∷ 0 ∷ 0 ∷ 0 ∷ 0 ∷ 0 ∷ 0 ∷ 0 ∷ []

abbrev pub list : List ℕ
list = 9 ∷ 9 ∷ []

abbrev pub set : Kept → Kept
set s = after (setting sketch (0 ∷ 1 ∷ []) (2 ∷ 1 ∷ [])) s

abbrev pub asked : ℕ → ℕ → Kept → Kept
asked a b s = after (asking sketch (grid a b) list) s

-- what an asking leaves in the list, and how many codes it says
abbrev pub Says : ℕ → ℕ → Kept → ℕ → List ℕ → Type 0
Says a b s count bytes = ((asked_at s sketch (grid a b) list).answer.listed ≡ count) × ((asked_at s sketch (grid a b) list).list ≡ bytes)

-- whatever stood in the memory that is lent
pub record Worked (columns limits : List ℕ) : Type 0 where
  pub no_codes : Says 9 9 (none_kept columns limits) 0 (9 ∷ 9 ∷ [])
  pub below : Says 1 0 (set (none_kept columns limits)) 0 (9 ∷ 9 ∷ [])
  pub at_the_limit : Says 2 1 (set (none_kept columns limits)) 2 (0 ∷ 1 ∷ [])
  pub one : Says 1 1 (set (none_kept columns limits)) 1 (1 ∷ 9 ∷ [])
  -- one item more: code 0 newly, code 1 not again
  pub then_other : Says 2 1 (asked 1 1 (set (none_kept columns limits))) 1 (0 ∷ 9 ∷ [])
  pub not_again : Says 2 1 (asked 2 1 (set (none_kept columns limits))) 0 (9 ∷ 9 ∷ [])
  pub fallen : Says 1 1 (asked 2 1 (set (none_kept columns limits))) 0 (9 ∷ 9 ∷ [])
  pub risen_again : Says 3 1 (asked 1 1 (asked 2 1 (set (none_kept columns limits)))) 1 (0 ∷ 9 ∷ [])
  -- the same list set anew comes after "below"
  pub set_anew : Says 2 1 (set (asked 2 1 (set (none_kept columns limits)))) 2 (0 ∷ 1 ∷ [])
