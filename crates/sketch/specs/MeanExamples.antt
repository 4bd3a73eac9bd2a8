-- Document 02, T-08, worked by hand: one row of two cells with c = 2, and the key is column 0.
use Rattle.std.specs.Prelude.{ℕ, ◌-◌, ◌^◌, ◌≡◌, List, [], ◌∷◌}
use Rattle.refusal.specs.declared.Verdict.TheVariants.{Accepted}
use Rattle.clock.specs.declared.SubWindowClock.TheVariants.{TimeBased}
use Rattle.sketch.specs.declared.MicroCm.{MicroCm}
use Rattle.sketch.specs.Sketch.{updated}
use Rattle.sketch.specs.Refusals.{read_call, mean_call}
use Rattle.sketch.specs.BenchSheet.{fresh_counted, mean}

-- t = 2 and a clock of time whose sub-windows are 1 long, so that n is its reading
abbrev pub at : ℕ → MicroCm
at n = record { rows = 1; cols = 2; params = record { t = 2; c = 2 }; clock = TimeBased 1 0 n; rounding = record { state = 1 } }

-- the key's pixels are 7 4 3 9: the items of the sub-windows whose number leaves 0, 1, 2 or 3 when divided by t + 2
abbrev pub grid : List ℕ
grid = 7 ∷ 4 ∷ 3 ∷ 9 ∷ 0 ∷ 0 ∷ 0 ∷ 0 ∷ 0 ∷ 0 ∷ 0 ∷ 0 ∷ 0 ∷ 0 ∷ 0 ∷ 0 ∷ 0 ∷ 0 ∷ 0 ∷ 0 ∷ 0 ∷ 0 ∷ 0 ∷ 0 ∷ []

-- at sub-window n a reading tells so many items as Under, and the mean is so many
abbrev pub Tells : (n under mean : ℕ) → Type 0
Tells n under mean = ((read_call (at n) (0 ∷ []) grid).under ≡ under) × (mean_call (at n) (0 ∷ []) grid ≡ record { verdict = Accepted; mean = mean })

pub record MeanWorked : Type 0 where
  -- document 02's own: one item at n = 0 with t = 12, where document 01 gave 0
  pub key_on : (seed : ℕ) → mean (0 ∷ []) (updated (0 ∷ []) (fresh_counted 1 12 1000 seed)) ≡ 1
  -- n = 0: 7 by 1
  pub first : Tells 0 7 7
  -- n = t − 1: 4 + 7 by 2, rounded down
  pub last_young : Tells 1 11 5
  -- n = t: 3 + 4 by 2; Over, which adds the 7 as well, or a division by n + 1 would give 7 or 2
  pub first_full : Tells 2 7 3
  -- the last n of all, where n + 1 has no place in 64 bits: 9 + 3 by 2
  pub last_full : Tells (2 ^ 64 - 1) 12 6
