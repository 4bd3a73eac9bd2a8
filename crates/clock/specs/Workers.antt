-- What the workers rely on and leave. The public calls have judged it; no public contract cites this file.
use Rattle.std.specs.Prelude.{◌^◌, ◌≤◌, ◌≡◌}
use Rattle.clock.specs.declared.SubWindowClock.{SubWindowClock}
use Rattle.clock.specs.Clock.{length_of, n_of}

-- a length of 1 to 2 ^ 53
pub record GoodLength (k : SubWindowClock) : Type 0 where
  pub some : 1 ≤ length_of k
  pub short : length_of k ≤ 2 ^ 53

-- a clock moved on by a step: it is what the step makes of it, its sub-windows are as long, and n has not fallen
pub record Onward (before step after : SubWindowClock) : Type 0 where
  pub is : after ≡ step
  pub length : length_of after ≡ length_of before
  pub grows : n_of before ≤ n_of after
