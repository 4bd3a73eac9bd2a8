-- Document 01, "Bench sheet": item 10 (one row, length 2 counted, three items in one column), and beside it an item of two
-- rows, by which summing before the minimum would show, and one of two sub-windows, by which the mean's division would.
use Rattle.std.specs.Prelude.{ℕ, ◌≡◌, List, [], ◌∷◌, Float}
use Rattle.laws.specs.Figure.{figure}
use Rattle.clock.specs.declared.SubWindowClock.TheVariants.{CountBased}
use Rattle.clock.specs.Clock.{fraction_of}
use Rattle.sketch.specs.Sketch.{fresh_sketch, fresh_grid, World, updated}
use Rattle.sketch.specs.Figures.{over_of, under_of, linear_of, mean_of}
use Rattle.sketch.specs.Refusals.{world}

-- a fresh sketch of two columns, c = 2 and a counted clock, with its grid
abbrev pub fresh_counted : ℕ → ℕ → ℕ → ℕ → World
fresh_counted rows t length seed =
    let k = fresh_sketch rows 2 (record { t = t; c = 2 }) (CountBased length 0) seed in world k (fresh_grid k)

-- the four figures of a key
abbrev pub over : List ℕ → World → ℕ
over key w = over_of w.sketch w.grid key

abbrev pub under : List ℕ → World → ℕ
under key w = under_of w.sketch w.grid key

abbrev pub linear : List ℕ → World → Float
linear key w = linear_of w.sketch w.grid key (fraction_of w.sketch.clock)

abbrev pub mean : List ℕ → World → ℕ
mean key w = mean_of w.sketch w.grid key

-- item 10: the key is column 0
abbrev pub three_items : ℕ → World
three_items seed = updated (0 ∷ []) (updated (0 ∷ []) (updated (0 ∷ []) (fresh_counted 1 1 2 seed)))

-- two rows and t = 2, an item a sub-window: one item shares the key's column in row 0, the next in row 1
abbrev pub two_strangers : ℕ → World
two_strangers seed = updated (1 ∷ 0 ∷ []) (updated (0 ∷ 1 ∷ []) (fresh_counted 2 2 1 seed))

-- one row and t = 2, three items a sub-window: three in the first, two in the second
abbrev pub five_items : ℕ → World
five_items seed = updated (0 ∷ []) (updated (0 ∷ []) (updated (0 ∷ []) (updated (0 ∷ []) (updated (0 ∷ []) (fresh_counted 1 2 3 seed)))))

pub record SketchItems : Type 0 where
  pub item_10 : (seed : ℕ)
      → (over (0 ∷ []) (three_items seed) ≡ 3)
      × (under (0 ∷ []) (three_items seed) ≡ 1)
      × (linear (0 ∷ []) (three_items seed) ≡ figure 2)
      × (mean (0 ∷ []) (three_items seed) ≡ 1)
  -- each row holds one item, but never both in the same sub-window
  pub two_rows : (seed : ℕ) → over (0 ∷ 0 ∷ []) (two_strangers seed) ≡ 0
  -- five items in two sub-windows: two and a half for each, rounded down
  pub halves : (seed : ℕ) → (under (0 ∷ []) (five_items seed) ≡ 5) × (mean (0 ∷ []) (five_items seed) ≡ 2)
