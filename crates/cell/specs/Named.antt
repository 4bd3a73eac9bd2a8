-- Document 02, T-09, for the calls on one cell. Document 01: "In a call on one cell the index is 0."
use Rattle.std.specs.Prelude.{ℕ, ◌≡◌, true, false, ◌&&◌, List}
use Rattle.refusal.specs.declared.Verdict.{Verdict}
use Rattle.refusal.specs.declared.Verdict.TheVariants.{Accepted}
use Rattle.refusal.specs.Causes.{Cause}
use Rattle.refusal.specs.Named.{Keeps, OfOne, SameAnswer}
use Rattle.cell.specs.declared.MicroParams.{MicroParams}
use Rattle.cell.specs.Cell.{sound_of}
use Rattle.cell.specs.Refusals.{cell_verdict, zoom_call, shutter_call, pixel_call, insert_call, cross_call, merge_call}
use Rattle.cell.specs.Causes.{cell_causes, insert_causes, cross_causes, merge_causes}

-- THE CELL THAT 14 NAMES is unsound, and its index is 0
abbrev pub UnsoundCell : MicroParams → List ℕ → ℕ → Type 0
UnsoundCell p b j = (j ≡ 0) × (sound_of p.t p.c b ≡ false)

-- of a merge's two cells one is
abbrev pub UnsoundOfTwo : MicroParams → List ℕ → List ℕ → ℕ → Type 0
UnsoundOfTwo p b src j = (j ≡ 0) × (sound_of p.t p.c b && sound_of p.t p.c src ≡ false)

-- A CALL THAT JUDGES A CELL: where it is accepted the cell is sound, and whatever core keeps the documents answers it so
pub record JudgesCell (p : MicroParams) (b : List ℕ) (causes : List Cause) (v : Verdict) : Type 0 where
  pub clear : v ≡ Accepted → sound_of p.t p.c b ≡ true
  pub keeps : Keeps causes (UnsoundCell p b) v
  pub same : (v' : Verdict) → Keeps causes (UnsoundCell p b) v' → SameAnswer v v'

-- EVERY CALL that judges one
pub record CellNames : Type 0 where
  pub judge : (p : MicroParams) (b : List ℕ) → JudgesCell p b (cell_causes p b) (cell_verdict p b)
  pub zoom : (p : MicroParams) (b : List ℕ) → JudgesCell p b (cell_causes p b) (zoom_call p b).verdict
  pub shutter : (p : MicroParams) (b : List ℕ) → JudgesCell p b (cell_causes p b) (shutter_call p b).verdict
  pub pixel : (p : MicroParams) (n : ℕ) (b : List ℕ) → JudgesCell p b (cell_causes p b) (pixel_call p n b).verdict
  pub insert : (p : MicroParams) (n : ℕ) (b : List ℕ) (σ : ℕ) → JudgesCell p b (insert_causes p b σ) (insert_call p n b σ).answer.verdict
  pub cross : (p : MicroParams) (n crossed : ℕ) (b : List ℕ) (σ : ℕ) → JudgesCell p b (cross_causes p n crossed b σ) (cross_call p n crossed b σ).answer.verdict
  pub merge : (p : MicroParams) (n : ℕ) (b src : List ℕ) (σ : ℕ)
      → Keeps (merge_causes p b src σ) (UnsoundOfTwo p b src) (merge_call p n b src σ).answer.verdict
  pub merge_same : (p : MicroParams) (n : ℕ) (b src : List ℕ) (σ : ℕ) (v : Verdict)
      → Keeps (merge_causes p b src σ) (UnsoundOfTwo p b src) v → SameAnswer (merge_call p n b src σ).answer.verdict v
  pub merge_clear : (p : MicroParams) (n : ℕ) (b src : List ℕ) (σ : ℕ) → (merge_call p n b src σ).answer.verdict ≡ Accepted
      → (sound_of p.t p.c b ≡ true) × (sound_of p.t p.c src ≡ true)
  pub one : (p : MicroParams) (b : List ℕ) → OfOne (UnsoundCell p b)
  pub one_of_two : (p : MicroParams) (b src : List ℕ) → OfOne (UnsoundOfTwo p b src)
