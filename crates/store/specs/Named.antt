-- Document 02, T-09, for the block store: a save judges the grid that it is lent, a load the stored cells.
use Rattle.std.specs.Prelude.{ℕ, ◌≡◌, List}
use Rattle.refusal.specs.declared.Verdict.{Verdict}
use Rattle.refusal.specs.declared.Verdict.TheVariants.{Accepted}
use Rattle.refusal.specs.Refusals.{number_of}
use Rattle.refusal.specs.Causes.{First}
use Rattle.refusal.specs.Named.{Names, SameAnswer}
use Rattle.sketch.specs.declared.MicroCm.{MicroCm}
use Rattle.sketch.specs.Named.{GridCell, SmallestUnsound, AllSound, Judges}
use Rattle.store_header.specs.Header.{sketch_in}
use Rattle.store.specs.Refusals.{header_payload, grid_in, save_call, load_call}
use Rattle.store.specs.Causes.{save_causes, load_causes}

-- an unsound cell of the stored grid, and the smallest of these
abbrev pub SmallestStored : List ℕ → ℕ → Type 0
SmallestStored store j = let k = sketch_in (header_payload store) in SmallestUnsound (GridCell k) k (grid_in k store) j

-- BOTH CALLS; a load goes by its own order
pub record StoreNames : Type 0 where
  pub save : (k : MicroCm) (g store : List ℕ) → Judges (GridCell k) k g (save_causes k g store) (save_call k g store).verdict
  pub load : (g store : List ℕ) → First (load_call g store).answer.verdict (load_causes g store)
  -- another core's answer v: its number is that of the first cause that holds, w, and with 14 its index is such a one
  pub load_same : (g store : List ℕ) (v w : Verdict) → First w (load_causes g store) → number_of v ≡ number_of w → Names v (SmallestStored store)
      → SameAnswer v (load_call g store).answer.verdict
  pub load_names : (g store : List ℕ) → Names (load_call g store).answer.verdict (SmallestStored store)
  pub load_clear : (g store : List ℕ) → (load_call g store).answer.verdict ≡ Accepted
      → let k = sketch_in (header_payload store) in AllSound k (grid_in k store)
