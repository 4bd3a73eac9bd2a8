-- What the workers rely on. The public calls have judged it; no public contract cites this file.
use Rattle.std.specs.Prelude.{ℕ, ◌^◌, ◌≤◌, ◌≡◌, true, not, cond, List, leb, eqb, length}
use Rattle.laws.specs.Steps.{Step, made}
use Rattle.refusal.specs.declared.Verdict.{Verdict}
use Rattle.refusal.specs.declared.Verdict.TheVariants.{Accepted}
use Rattle.refusal.specs.Refusals.{refuse}
use Rattle.rounding.specs.declared.Rounding.{Rounding}
use Rattle.rounding.specs.Refusals.{refuse_state}
use Rattle.cell.specs.declared.MicroParams.{MicroParams}
use Rattle.cell.specs.declared.Drawn.{Drawn}
use Rattle.cell.specs.declared.Held.{Held}
use Rattle.cell.specs.declared.CellAnswer.{CellAnswer}
use Rattle.cell.specs.Cell.{depth_of, shutter_of, unit_of, max_zoom, sound_of}
use Rattle.cell.specs.Refusals.{refuse_params, insert_verdict}

-- accepted settings, and a cell of its depth
pub record Fit (t c size : ℕ) : Type 0 where
  pub t_low : 1 ≤ t
  pub t_high : t ≤ 4096
  pub c_low : 2 ≤ c
  pub c_high : c ≤ 256
  pub size_is : size ≡ depth_of t

-- a sound cell, with its shutter and its unit as they were read
pub record Judged (t c : ℕ) (b : List ℕ) (shutter unit : ℕ) : Type 0 where
  pub fit : Fit t c (length b)
  pub sound : sound_of t c b ≡ true
  pub shutter_is : shutter ≡ shutter_of t b
  pub unit_is : unit ≡ unit_of t c b

-- the bytes that a worker leaves, with what it returned beside them
abbrev pub step_of : List ℕ → Drawn → Step
step_of b r = made b r.state r.draws r.lost

-- c ^ z, and 0 where z is above max_zoom
abbrev pub unit_or_zero : ℕ → ℕ → ℕ
unit_or_zero c z = cond (leb z (max_zoom c)) (c ^ z) 0

-- what is told before a cell is read, `size` bytes of it: 1, 2, 5, 6; then the causes after these
abbrev pub before_cell : MicroParams → ℕ → ℕ → Verdict → Verdict
before_cell p σ size rest = refuse_params p (refuse_state σ (refuse 6 (not (eqb size (depth_of p.t))) rest))

-- a cell judged, with what was read of it
pub record HeldOf (p : MicroParams) (b : List ℕ) (σ : ℕ) (r : Held) : Type 0 where
  pub verdict_is : r.verdict ≡ insert_verdict p b σ
  pub judged : r.verdict ≡ Accepted → Judged p.t p.c b r.shutter r.unit

-- the answers of a call that changes a cell
abbrev pub turned_back : Verdict → Rounding → CellAnswer
turned_back v ρ = record { verdict = v; rounding = ρ; draws = 0; lost = 0 }

abbrev pub done_with : Drawn → CellAnswer
done_with d = record { verdict = Accepted; rounding = record { state = d.state }; draws = d.draws; lost = d.lost }
