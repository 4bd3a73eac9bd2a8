-- What the workers rely on and leave. The public calls have judged it; no public contract cites this file.
use Rattle.std.specs.Prelude.{ℕ, ◌+◌, ◌-◌, ◌≤◌, ◌≡◌, Bool, true, not, cond, List, eqb}
use Rattle.laws.specs.Steps.{Step, still, followed}
use Rattle.refusal.specs.declared.Verdict.{Verdict}
use Rattle.refusal.specs.declared.Verdict.TheVariants.{Accepted}
use Rattle.refusal.specs.Refusals.{when_accepted}
use Rattle.clock.specs.declared.SubWindowClock.{SubWindowClock}
use Rattle.clock.specs.Clock.{n_of}
use Rattle.sketch.specs.declared.MicroCm.{MicroCm}
use Rattle.sketch.specs.declared.Passed.{Passed}
use Rattle.sketch.specs.Sketch.{cells_of, key_cells, all_cells, insert_each, cross_each}
use Rattle.sketch.specs.Refusals.{key_fits, sketch_verdict}
use Rattle.sketch.specs.Workers.{Judged, SoundCells}
use Rattle.sketch_counting_passes.specs.Workers.{passed}

-- the sub-windows of a call: before it, after it, and the item's own
pub record SubWindows : Type 0 where
  pub old : ℕ
  pub new : ℕ
  pub own : ℕ

abbrev pub windows : ℕ → ℕ → ℕ → SubWindows
windows old new n = record { old = old; new = new; own = n }

-- n differs by the move to this clock
abbrev pub crosses_to : MicroCm → SubWindowClock → Bool
crosses_to k after = not (eqb (n_of after) (n_of k.clock))

-- every cell crosses, or stays as it is
abbrev pub cross_if : Bool → MicroCm → ℕ → ℕ → List ℕ → ℕ → Step
cross_if moves k old new g σ = cond moves (cross_each k new (new - old) g σ) (still g σ)

-- cells that cross were judged
pub record SoundIf (moves : Bool) (k : MicroCm) (g : List ℕ) : Type 0 where
  pub sound : moves ≡ true → SoundCells k.params.t k.params.c (cells_of k) g

-- the sub-windows of a move to this clock: where none begins, an item is of the present one
pub record Moves (k : MicroCm) (after : SubWindowClock) (at : SubWindows) : Type 0 where
  pub before_is : at.old ≡ n_of k.clock
  pub after_is : at.new ≡ n_of after
  pub grows : at.old ≤ at.new
  pub own_is : at.new ≡ at.old → at.own ≡ at.old

-- what was judged of an item: the sketch, the key and its cells, and every cell where n rises
pub record Countable (k : MicroCm) (key g : List ℕ) (at : SubWindows) : Type 0 where
  pub whole : sketch_verdict k g ≡ Accepted
  pub fits : key_fits k key ≡ true
  pub judged : Judged k g (cond (eqb at.new at.old) (key_cells k 0 key) (all_cells k))
  pub grows : at.old ≤ at.new
  pub own_is : at.new ≡ at.old → at.own ≡ at.old

-- what three passes, one after another, leave beside the grid
abbrev pub in_a_row : Passed → Passed → Passed → Passed
in_a_row p q r = passed r.state (p.draws + q.draws + r.draws) (p.lost + q.lost + r.lost)

-- an item: the cells cross before it where it is not of the old sub-window, and after it where it is not of the new
unfoldable pub item_of : MicroCm → List ℕ → SubWindows → List ℕ → Step
item_of k key at g =
    let before = cross_if (not (eqb at.own at.old)) k at.old at.new g k.rounding.state in
    let recorded = insert_each k at.own (key_cells k 0 key) before.bytes before.state in
    let last = cross_if (not (eqb at.new at.own)) k at.old at.new recorded.bytes recorded.state in
    followed (followed before recorded) last

-- and nothing is done where it is refused
abbrev pub item_counted : Verdict → MicroCm → List ℕ → SubWindows → List ℕ → Step
item_counted v k key at g = when_accepted v (item_of k key at g) (still g k.rounding.state)
