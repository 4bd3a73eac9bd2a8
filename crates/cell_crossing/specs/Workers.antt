-- What the workers of a crossing rely on. No public contract cites this file.
use Rattle.std.specs.Prelude.{ℕ, ◌≤◌, ◌<◌, ◌≡◌, List}
use Rattle.refusal.specs.declared.Verdict.TheVariants.{Accepted}
use Rattle.cell.specs.declared.MicroParams.{MicroParams}
use Rattle.cell.specs.declared.Held.{Held}
use Rattle.cell.specs.Cell.{pixels_of}
use Rattle.cell.specs.Refusals.{cross_verdict}
use Rattle.cell.specs.Workers.{Judged}

-- a cell judged for a crossing, with what was read of it
pub record CrossingHeld (p : MicroParams) (n crossed : ℕ) (b : List ℕ) (σ : ℕ) (r : Held) : Type 0 where
  pub verdict_is : r.verdict ≡ cross_verdict p n crossed b σ
  pub judged : r.verdict ≡ Accepted → Judged p.t p.c b r.shutter r.unit
  pub begins : r.verdict ≡ Accepted → crossed < pixels_of p.t → crossed ≤ n
