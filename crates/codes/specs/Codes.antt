-- Document 02, T-01: codes that reached their limit.
use Rattle.std.specs.Prelude.{ℕ, zero, suc, ◌+◌, ◌*◌, ◌/◌, ◌%◌, ◌^◌, Bool, false, not, cond, ◌&&◌, ◌||◌, List, [], ◌∷◌, ◌++◌, leb, eqb, length, get_or, drop}
use Rattle.laws.specs.Parts.{part}
use Rattle.sketch.specs.declared.MicroCm.{MicroCm}
use Rattle.sketch.specs.Sketch.{key_cells, all_cells}
use Rattle.sketch.specs.Figures.{over_of}
use Rattle.codes.specs.declared.Watch.{Watch}

-- no codes: what a fresh start or a load leaves
abbrev pub no_codes : Watch
no_codes = record { count = 0; rows = 0; reached = 0 }

-- the columns of code i: one a row, those of one code behind those of another
abbrev pub code_in : ℕ → List ℕ → ℕ → List ℕ
code_in rows columns i = part (i * rows) rows columns

-- REACHED: the Over figure of code i is at or above its limit
unfoldable pub reached_at : MicroCm → List ℕ → List ℕ → List ℕ → ℕ → Bool
reached_at k g columns limits i = leb (get_or limits i 0) (over_of k g (code_in k.rows columns i))

-- NEWLY REACHED: the codes below n that are so now and were not at the asking before, one time each, in ascending index
unfoldable pub newly : (ℕ → Bool) → (ℕ → Bool) → ℕ → List ℕ
newly now before zero = []
newly now before (suc n) = newly now before n ++ cond (now n && not (before n)) (n ∷ []) []

-- what the last asking found: a bit for each code
abbrev pub flag_at : ℕ → ℕ → Bool
flag_at flags i = eqb (flags / 2 ^ i % 2) 1

-- the number whose bits below n are these
unfoldable pub flags_of : (ℕ → Bool) → ℕ → ℕ
flags_of now zero = 0
flags_of now (suc n) = flags_of now n + cond (now n) (2 ^ n) 0

-- these first, and behind them what stood there: "places past the last listed one keep their bytes"
abbrev pub onto : List ℕ → List ℕ → List ℕ
onto old new = new ++ drop (length new) old

-- the cells of the codes below n
unfoldable pub code_cells : MicroCm → List ℕ → ℕ → List ℕ
code_cells k columns zero = []
code_cells k columns (suc n) = code_cells k columns n ++ key_cells k 0 (code_in k.rows columns n)

-- x stands in a list
unfoldable pub is_in : ℕ → List ℕ → Bool
is_in x [] = false
is_in x (y ∷ ys) = eqb y x || is_in x ys

-- of these the ones that stand in a list
unfoldable pub those : List ℕ → List ℕ → List ℕ
those list [] = []
those list (x ∷ xs) = cond (is_in x list) (x ∷ those list xs) (those list xs)

-- THE CELLS JUDGED: those of all the codes, in grid order
abbrev pub watched_cells : MicroCm → List ℕ → ℕ → List ℕ
watched_cells k columns n = those (code_cells k columns n) (all_cells k)
