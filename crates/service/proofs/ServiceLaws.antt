-- A start of the service, fresh or loaded, is the sketch's, with no codes beside it. Assumes nothing.
use mathlib.Core.Path.{◌≡◌, ap}
use mathlib.Core.List.{List}
use Prim.Native.Nat.{ℕ}
use Rattle.sketch.specs.declared.SketchAnswer.{SketchAnswer}
use Rattle.sketch.specs.Refusals.{SketchOutcome, sketch_outcome}
use Rattle.service.specs.declared.ServiceAnswer.{ServiceAnswer}
use Rattle.service.specs.Service.{served, service_outcome, without_codes}

pub start_served : (a : SketchAnswer) (g : List ℕ) (o : SketchOutcome) (r : ServiceAnswer) → sketch_outcome a g ≡ o → r ≡ served a.verdict a.sketch
    → service_outcome r g ≡ without_codes o
start_served a g o r e er = rw er (ap without_codes e)
