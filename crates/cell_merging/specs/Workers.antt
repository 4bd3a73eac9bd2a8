-- What the workers of a merge rely on and return. No public contract cites this file.
use Rattle.std.specs.Prelude.{ℕ, ◌/◌, ◌%◌, ◌≤◌, ◌≡◌, true, List, length}
use Rattle.refusal.specs.declared.Verdict.{Verdict}
use Rattle.refusal.specs.declared.Verdict.TheVariants.{Accepted}
use Rattle.cell.specs.declared.MicroParams.{MicroParams}
use Rattle.cell_merging.specs.declared.merge.Carry.{Carry}
use Rattle.cell.specs.Cell.{sound_of}
use Rattle.cell.specs.Refusals.{merge_verdict}
use Rattle.cell.specs.Workers.{Fit}

-- two sound cells of one depth
pub record Pair (t c : ℕ) (b src : List ℕ) : Type 0 where
  pub fit : Fit t c (length b)
  pub fit_src : Fit t c (length src)
  pub sound : sound_of t c b ≡ true
  pub sound_src : sound_of t c src ≡ true

-- two cells judged for a merge
pub record PairJudged (p : MicroParams) (b src : List ℕ) (σ : ℕ) (v : Verdict) : Type 0 where
  pub verdict_is : v ≡ merge_verdict p b src σ
  pub judged : v ≡ Accepted → Pair p.t p.c b src

-- what so many items of the shutters make, at a zoom whose unit both are below
pub record Carried (shutters unit : ℕ) (r : Carry) : Type 0 where
  pub units_are : r.units ≡ shutters / unit
  pub rest_is : r.rest ≡ shutters % unit
  pub few : r.units ≤ 1
