-- Document 02, T-09, worked by hand: two rows of two cells with t = 1 and c = 2, which stand in the grid as 0 1 2 3. A cell whose zoom byte is 255 is
-- unsound. Where cells 1 and 2 are, by columns cell 2 would come first, and it is the last one.
use Rattle.std.specs.Prelude.{ℕ, ◌≡◌, List, [], ◌∷◌, ◌++◌}
use Rattle.refusal.specs.declared.Verdict.TheVariants.{Accepted, Unsound}
use Rattle.clock.specs.declared.SubWindowClock.{SubWindowClock}
use Rattle.clock.specs.declared.SubWindowClock.TheVariants.{CountBased, TimeBased}
use Rattle.sketch.specs.declared.MicroCm.{MicroCm}
use Rattle.sketch.specs.declared.Finding.TheVariants as finding
use Rattle.sketch.specs.Refusals.{update_call, update_at_call, advance_call, read_call, mean_call, highest_call, audit_call, merge_call}

abbrev pub sketch : SubWindowClock → MicroCm
sketch clock = record { rows = 2; cols = 2; params = record { t = 1; c = 2 }; clock = clock; rounding = record { state = 1 } }

-- the next item leaves n as it is, or is the last of its sub-window; a clock of time reads 0
abbrev pub far : MicroCm
far = sketch (CountBased 1000 0)

abbrev pub near : MicroCm
near = sketch (CountBased 1 0)

abbrev pub timed : MicroCm
timed = sketch (TimeBased 10 0 0)

abbrev pub cell : ℕ → List ℕ
cell zoom = 0 ∷ 0 ∷ 0 ∷ zoom ∷ 0 ∷ 0 ∷ 0 ∷ 0 ∷ []

-- the four cells with these zooms
abbrev pub grid : ℕ → ℕ → ℕ → ℕ → List ℕ
grid a b c d = cell a ++ cell b ++ cell c ++ cell d

abbrev pub two : List ℕ
two = grid 0 255 255 0

pub record NamedWorked : Type 0 where
  pub audit : (audit_call far two).audit ≡ finding.Unsound 1
  pub audit_clear : (audit_call far (grid 0 0 0 0)).audit ≡ finding.Sound
  pub highest : (highest_call far two).verdict ≡ Unsound 1
  -- the key's cells 0 and 2, 1 and 2, 0 and 3
  pub read : (read_call far (0 ∷ 0 ∷ []) two).verdict ≡ Unsound 2
  pub read_both : (read_call far (1 ∷ 0 ∷ []) two).verdict ≡ Unsound 1
  pub read_neither : (read_call far (0 ∷ 1 ∷ []) two).verdict ≡ Accepted
  pub mean : (mean_call far (0 ∷ 0 ∷ []) two).verdict ≡ Unsound 2
  -- an item within its sub-window judges the key's cells, one that crosses all
  pub update : (update_call far (0 ∷ 0 ∷ []) two).answer.verdict ≡ Unsound 2
  pub update_crosses : (update_call near (0 ∷ 0 ∷ []) two).answer.verdict ≡ Unsound 1
  pub update_at : (update_at_call timed (0 ∷ 0 ∷ []) 9 two).answer.verdict ≡ Unsound 2
  pub update_at_crosses : (update_at_call timed (0 ∷ 1 ∷ []) 10 two).answer.verdict ≡ Unsound 1
  pub advance : (advance_call timed 9 two).answer.verdict ≡ Accepted
  pub advance_crosses : (advance_call timed 10 two).answer.verdict ≡ Unsound 1
  -- a merge: cell 2 of the receiving grid and cell 1 of the other
  pub merge : (merge_call far (grid 0 0 255 0) far (grid 0 255 0 0)).answer.verdict ≡ Unsound 2
  pub merge_other : (merge_call far (grid 0 0 0 0) far two).answer.verdict ≡ Unsound 1
