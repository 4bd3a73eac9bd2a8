-- Document 02, T-09: "The index with an unsound cell becomes the smallest, in grid order, among the cells judged. It applies to the audit and to the
-- index returned with 14. In a merge the receiving grid is searched before the other. No index is free any longer."
--
-- Nothing here looks at how a call searches: the cells judged are told as document 01 tells them, under "Turning a call back".
use Rattle.std.specs.Prelude.{ℕ, ◌≤◌, ◌<◌, ◌≡◌, true, false, List, Float}
use Rattle.refusal.specs.declared.Verdict.{Verdict}
use Rattle.refusal.specs.declared.Verdict.TheVariants.{Accepted}
use Rattle.refusal.specs.Causes.{Cause}
use Rattle.refusal.specs.Named.{Keeps, OfOne, SameAnswer}
use Rattle.clock.specs.declared.SubWindowClock.{SubWindowClock}
use Rattle.clock.specs.Clock.{tick_of, advance_of}
use Rattle.sketch.specs.declared.MicroCm.{MicroCm}
use Rattle.sketch.specs.declared.Finding.{Finding}
use Rattle.sketch.specs.declared.Finding.TheVariants as finding
use Rattle.sketch.specs.Sketch.{cells_of, cell_index}
use Rattle.sketch.specs.Figures.{key_cell}
use Rattle.sketch.specs.Refusals.{update_call, update_at_call, advance_call, read_call, read_with_call, mean_call, highest_call, audit_call, merge_call}
use Rattle.sketch.specs.Causes.{update_causes, update_at_causes, advance_causes, read_causes, read_with_causes, highest_causes, merge_causes}
use Rattle.sketch.specs.Acceptance.{sound_at, Stays}

-- THE CELLS JUDGED, each by its index
-- the whole grid
abbrev pub GridCell : MicroCm → ℕ → Type 0
GridCell k j = j < cells_of k

-- the key's: one in each row
pub record KeyCell (k : MicroCm) (key : List ℕ) (j : ℕ) : Type 0 where
  pub row : ℕ
  pub inside : row < k.rows
  pub is : j ≡ key_cell k key row

-- none
abbrev pub NoCell : ℕ → Type 0
NoCell j = ⊥

-- of a call by which the sketch takes this clock: these while n stays, and the whole grid if it crosses
pub data MovingCell (k : MicroCm) (clock : SubWindowClock) (Within : ℕ → Type 0) (j : ℕ) : Type 0 where
  within : Stays k clock → Within j → MovingCell k clock Within j
  crossing : (Stays k clock → ⊥) → GridCell k j → MovingCell k clock Within j

-- THE CELL THAT IS NAMED is one of those judged, is unsound, and no unsound one of them comes before it
pub record SmallestUnsound (Judged : ℕ → Type 0) (k : MicroCm) (g : List ℕ) (j : ℕ) : Type 0 where
  pub judged : Judged j
  pub unsound : sound_at k g j ≡ false
  pub smallest : (i : ℕ) → Judged i → sound_at k g i ≡ false → j ≤ i

-- every cell of a grid is sound
abbrev pub AllSound : MicroCm → List ℕ → Type 0
AllSound k g = (i : ℕ) → GridCell k i → sound_at k g i ≡ true

-- A CALL THAT JUDGES THESE CELLS: where it is accepted each of them is sound, with 14 it names the smallest that is not, and whatever core keeps the
-- documents answers it so
pub record Judges (Judged : ℕ → Type 0) (k : MicroCm) (g : List ℕ) (causes : List Cause) (v : Verdict) : Type 0 where
  pub clear : v ≡ Accepted → (i : ℕ) → Judged i → sound_at k g i ≡ true
  pub keeps : Keeps causes (SmallestUnsound Judged k g) v
  pub same : (v' : Verdict) → Keeps causes (SmallestUnsound Judged k g) v' → SameAnswer v v'

-- IN A MERGE the other grid's is named only where every cell of the receiving one is sound
pub data SmallestOfTwo (k : MicroCm) (g : List ℕ) (k' : MicroCm) (g' : List ℕ) (j : ℕ) : Type 0 where
  receiving : SmallestUnsound (GridCell k) k g j → SmallestOfTwo k g k' g' j
  other : AllSound k g → SmallestUnsound (GridCell k') k' g' j → SmallestOfTwo k g k' g' j

-- WHAT AN AUDIT PRINTS: that every cell is sound, or the cell
pub record Printout (k : MicroCm) (g : List ℕ) (f : Finding) : Type 0 where
  pub clear : f ≡ finding.Sound → AllSound k g
  pub named : (j : ℕ) → f ≡ finding.Unsound j → SmallestUnsound (GridCell k) k g j

-- EVERY CALL on a sketch that judges cells, and the audit
pub record SketchNames : Type 0 where
  pub update : (k : MicroCm) (key g : List ℕ)
      → Judges (MovingCell k (tick_of k.clock) (KeyCell k key)) k g (update_causes k key g) (update_call k key g).answer.verdict
  pub update_at : (k : MicroCm) (key : List ℕ) (reading : ℕ) (g : List ℕ)
      → Judges (MovingCell k (advance_of k.clock reading) (KeyCell k key)) k g (update_at_causes k key reading g) (update_at_call k key reading g).answer.verdict
  pub advance : (k : MicroCm) (reading : ℕ) (g : List ℕ)
      → Judges (MovingCell k (advance_of k.clock reading) NoCell) k g (advance_causes k reading g) (advance_call k reading g).answer.verdict
  pub read : (k : MicroCm) (key g : List ℕ) → Judges (KeyCell k key) k g (read_causes k key g) (read_call k key g).verdict
  pub read_with : (k : MicroCm) (key : List ℕ) (fraction : Float) (g : List ℕ)
      → Judges (KeyCell k key) k g (read_with_causes k key fraction g) (read_with_call k key fraction g).verdict
  pub mean : (k : MicroCm) (key g : List ℕ) → Judges (KeyCell k key) k g (read_causes k key g) (mean_call k key g).verdict
  pub highest : (k : MicroCm) (g : List ℕ) → Judges (GridCell k) k g (highest_causes k g) (highest_call k g).verdict
  pub merge : (k : MicroCm) (g : List ℕ) (k' : MicroCm) (g' : List ℕ)
      → Keeps (merge_causes k g k' g') (SmallestOfTwo k g k' g') (merge_call k g k' g').answer.verdict
  pub merge_same : (k : MicroCm) (g : List ℕ) (k' : MicroCm) (g' : List ℕ) (v : Verdict)
      → Keeps (merge_causes k g k' g') (SmallestOfTwo k g k' g') v → SameAnswer (merge_call k g k' g').answer.verdict v
  pub merge_clear : (k : MicroCm) (g : List ℕ) (k' : MicroCm) (g' : List ℕ) → (merge_call k g k' g').answer.verdict ≡ Accepted → AllSound k g × AllSound k' g'
  pub audit : (k : MicroCm) (g : List ℕ) → (audit_call k g).verdict ≡ Accepted → Printout k g (audit_call k g).audit

-- SO NO INDEX IS FREE: one alone is promised, whichever cells are judged, and two printouts of one grid agree
pub record OneNamed : Type 1 where
  pub one : (Judged : ℕ → Type 0) (k : MicroCm) (g : List ℕ) → OfOne (SmallestUnsound Judged k g)
  pub one_of_two : (k : MicroCm) (g : List ℕ) (k' : MicroCm) (g' : List ℕ) → OfOne (SmallestOfTwo k g k' g')
  pub same_printout : (k : MicroCm) (g : List ℕ) (f f' : Finding) → Printout k g f → Printout k g f' → f ≡ f'

-- THE SMALLEST INDEX is the first in grid order: by row, then column
pub record GridOrder : Type 0 where
  pub by_row : (k : MicroCm) (row row' col col' : ℕ) → col < k.cols → row < row' → cell_index k row col < cell_index k row' col'
  pub by_column : (k : MicroCm) (row col col' : ℕ) → col < col' → cell_index k row col < cell_index k row col'
