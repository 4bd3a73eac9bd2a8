-- Document 02, T-08, in other words: over which sub-windows the mean is, and what it is of their items, said of the answers and without a division. A mean
-- by another number of sub-windows, of another figure or rounded otherwise would not have these.
use Rattle.std.specs.Prelude.{ℕ, ◌+◌, ◌-◌, ◌*◌, ◌≤◌, ◌<◌, ◌≡◌, List}
use Rattle.laws.specs.Sums.{total}
use Rattle.refusal.specs.declared.Verdict.TheVariants.{Accepted}
use Rattle.clock.specs.Clock.{n_of}
use Rattle.sketch.specs.declared.MicroCm.{MicroCm}
use Rattle.sketch.specs.Figures.{least_back, begun_of}
use Rattle.sketch.specs.Refusals.{read_call, mean_call}

-- what a mean says where it is accepted
pub record MeanSays (k : MicroCm) (key g : List ℕ) : Type 0 where
  -- all sub-windows since the start are begun, until there are t; from then on it is t of them, as in document 01
  pub young : n_of k.clock < k.params.t → begun_of k ≡ n_of k.clock + 1
  pub full : k.params.t ≤ n_of k.clock → begun_of k ≡ k.params.t
  -- they are those that Under adds up: the present one, 0 back, and so on
  pub some : 1 ≤ begun_of k
  pub added : (read_call k key g).under ≡ total (begun_of k - 1) (least_back k g key)
  -- so many of the items that a reading tells as Under for each of them, and not one more for each
  pub low : (mean_call k key g).mean * begun_of k ≤ (read_call k key g).under
  pub high : (read_call k key g).under < ((mean_call k key g).mean + 1) * begun_of k
  -- as a mean does, it lies between the fewest and the most items of any of them
  pub not_below : (m : ℕ) → ((back : ℕ) → back < begun_of k → m ≤ least_back k g key back) → m ≤ (mean_call k key g).mean
  pub not_above : (m : ℕ) → ((back : ℕ) → back < begun_of k → least_back k g key back ≤ m) → (mean_call k key g).mean ≤ m

-- of every sketch, key and grid: a mean is refused by what a reading is refused by
pub record MeanMeaning : Type 0 where
  pub judged : (k : MicroCm) (key g : List ℕ) → (mean_call k key g).verdict ≡ (read_call k key g).verdict
  pub accepted : (k : MicroCm) (key g : List ℕ) → (mean_call k key g).verdict ≡ Accepted → MeanSays k key g
