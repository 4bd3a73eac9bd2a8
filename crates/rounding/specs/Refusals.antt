-- Document 01, "Turning a call back", for a draw (5) and a division (5, then 15). Each call's answer, whole.
use Rattle.std.specs.Prelude.{ℕ, eqb}
use Rattle.refusal.specs.declared.Verdict.{Verdict}
use Rattle.refusal.specs.declared.Verdict.TheVariants.{Accepted}
use Rattle.refusal.specs.Refusals.{when_accepted}
use Rattle.refusal.specs.Causes.{Cause, cause, refuse_by}
use Rattle.rounding.specs.declared.Divided.{Divided}
use Rattle.rounding.specs.declared.DrawAnswer.{DrawAnswer}
use Rattle.rounding.specs.declared.DivisionAnswer.{DivisionAnswer}
use Rattle.rounding.specs.Draws.{next_state, yielded, rounded_div}

-- THE CAUSES, each with its number
-- 5: the random state is 0
abbrev pub no_state : ℕ → Cause
no_state σ = cause 5 (eqb σ 0)

-- 15: the divisor is 0
abbrev pub no_divisor : ℕ → Cause
no_divisor d = cause 15 (eqb d 0)

abbrev pub refuse_state : ℕ → Verdict → Verdict
refuse_state σ rest = refuse_by (no_state σ) rest

abbrev pub draw_verdict : ℕ → Verdict
draw_verdict σ = refuse_state σ Accepted

abbrev pub division_verdict : ℕ → ℕ → Verdict
division_verdict d σ = refuse_state σ (refuse_by (no_divisor d) Accepted)

-- a refused draw yields 0 and leaves the state
unfoldable pub draw_call : ℕ → DrawAnswer
draw_call σ =
    record {
      verdict = draw_verdict σ;
      value = when_accepted (draw_verdict σ) (yielded (next_state σ)) 0;
      rounding = record { state = when_accepted (draw_verdict σ) (next_state σ) σ };
    }

abbrev pub division_answer : Verdict → Divided → DivisionAnswer
division_answer v r = record { verdict = v; value = r.value; rounding = record { state = r.state }; draws = r.draws }

-- a refused division gives 0, draws nothing and leaves the state
unfoldable pub division_call : ℕ → ℕ → ℕ → DivisionAnswer
division_call v d σ =
    division_answer (division_verdict d σ) (when_accepted (division_verdict d σ) (rounded_div v d σ) (record { value = 0; state = σ; draws = 0 }))
