-- Each call's verdict is that of its list of causes: the cascade is the list, unfolded. Assumes nothing.
use Prim.Native.Nat.{ℕ}
use mathlib.Core.Path.{◌≡◌, refl}
use mathlib.Core.Bool.{Bool, true, false, not, cond}
use mathlib.Core.List.{List}
use Rattle.refusal.specs.declared.Verdict.{Verdict}
use Rattle.refusal.specs.declared.Verdict.TheVariants.{Accepted, Unsound}
use Rattle.refusal.specs.Causes.{refuse_by, first_of, numbers_of, place_in, ranked_from}
use Rattle.cell.specs.declared.MicroParams.{MicroParams}
use Rattle.cell.specs.Cell.{sound_of}
use Rattle.cell.specs.Refusals.{bad_cell, refuse_unsound}
use Rattle.cell.specs.Causes.{CellCalls}
use Rattle.cell.specs.Limits.{Limits}

-- 14: what is not sound is unsound
one_cell : (p : MicroParams) (b : List ℕ) (rest : Verdict) → refuse_unsound p b rest ≡ refuse_by (bad_cell p b) rest
one_cell p b rest = by (sound_of p.t p.c b)
  where
    by : (x : Bool) → cond x rest (Unsound 0) ≡ cond (not x) (Unsound 0) rest
    by true = refl
    by false = refl

pub cell_calls : CellCalls
unfolding first_of numbers_of place_in ranked_from
cell_calls = record {
  params = λ p. record { is = refl; numbered = refl; ordered = refl };
  max_zoom_lem = λ c. record { is = refl; numbered = refl; ordered = refl };
  read = λ p b. record { is = rw (one_cell p b Accepted) refl; numbered = refl; ordered = refl };
  insert = λ p b σ. record { is = rw (one_cell p b Accepted) refl; numbered = refl; ordered = refl };
  cross = λ p n crossed b σ. record { is = rw (one_cell p b Accepted) refl; numbered = refl; ordered = refl };
  merge = λ p b src σ. record { is = rw (one_cell p b (refuse_unsound p src Accepted), one_cell p src Accepted) refl; numbered = refl; ordered = refl };
}

pub limits : Limits
limits = record { least = refl; most = refl; t_low = refl; t_high = refl; c_low = refl; c_high = refl; both = refl }
