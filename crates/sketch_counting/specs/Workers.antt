-- What a worker leaves. No public contract cites this file.
use Rattle.refusal.specs.Refusals.{when_accepted}
use Rattle.clock.specs.declared.SubWindowClock.{SubWindowClock}
use Rattle.sketch.specs.declared.MicroCm.{MicroCm}
use Rattle.sketch.specs.declared.SketchAnswer.{SketchAnswer}
use Rattle.sketch.specs.Refusals.{undrawn}
use Rattle.sketch.specs.Workers.{went_on}
use Rattle.sketch_counting_items.specs.declared.worker.Counted.{Counted}

-- THE ANSWER of an item, by its verdict
abbrev pub counted_answer : MicroCm → SubWindowClock → Counted → SketchAnswer
counted_answer k clock r = when_accepted r.verdict (went_on k clock r.passed) (undrawn r.verdict k)
