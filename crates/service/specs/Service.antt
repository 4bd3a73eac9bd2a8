-- Document 02, T-01: "A fresh start or a load leaves no codes." What both give, whole.
use Rattle.std.specs.Prelude.{ℕ, List}
use Rattle.refusal.specs.declared.Verdict.{Verdict}
use Rattle.cell.specs.declared.MicroParams.{MicroParams}
use Rattle.clock.specs.declared.SubWindowClock.{SubWindowClock}
use Rattle.sketch.specs.declared.MicroCm.{MicroCm}
use Rattle.sketch.specs.Refusals.{SketchOutcome, fresh_call}
use Rattle.store.specs.Refusals as stored
use Rattle.codes.specs.Codes.{no_codes}
use Rattle.service.specs.declared.ServiceAnswer.{ServiceAnswer}

-- a sketch beside no codes
abbrev pub served : Verdict → MicroCm → ServiceAnswer
served v k = record { verdict = v; service = record { sketch = k; watch = no_codes } }

-- everything that the call gives, and the grid that it leaves
pub record ServiceOutcome : Type 0 where
  pub answer : ServiceAnswer
  pub grid : List ℕ

abbrev pub service_outcome : ServiceAnswer → List ℕ → ServiceOutcome
service_outcome r g = record { answer = r; grid = g }

-- A FRESH START and A LOAD: document 01's, and no codes
abbrev pub without_codes : SketchOutcome → ServiceOutcome
without_codes o = service_outcome (served o.answer.verdict o.answer.sketch) o.grid

abbrev pub start_call : ℕ → ℕ → MicroParams → SubWindowClock → ℕ → List ℕ → ServiceOutcome
start_call rows cols p clock seed g = without_codes (fresh_call rows cols p clock seed g)

abbrev pub load_call : List ℕ → List ℕ → ServiceOutcome
load_call g store = without_codes (stored.load_call g store)
