-- Document 01, "Clock": length is 1 to 2 ^ 53: the last that are accepted and the first that are not, by their numbers.
use Rattle.std.specs.Prelude.{ℕ, ◌+◌, ◌^◌, ◌≡◌}
use Rattle.refusal.specs.Refusals.{number_of}
use Rattle.clock.specs.declared.SubWindowClock.{SubWindowClock}
use Rattle.clock.specs.declared.SubWindowClock.TheVariants.{CountBased, TimeBased}
use Rattle.clock.specs.Refusals.{length_verdict}

abbrev pub refused_by : SubWindowClock → ℕ
refused_by k = number_of (length_verdict k)

pub record Limits : Type 0 where
  pub least : (refused_by (CountBased 1 0) ≡ 0) × (refused_by (TimeBased 1 0 0) ≡ 0)
  pub most : (refused_by (CountBased (2 ^ 53) 0) ≡ 0) × (refused_by (TimeBased (2 ^ 53) 0 0) ≡ 0)
  pub none : (refused_by (CountBased 0 0) ≡ 3) × (refused_by (TimeBased 0 0 0) ≡ 3)
  pub too_long : (refused_by (CountBased (2 ^ 53 + 1) 0) ≡ 3) × (refused_by (TimeBased (2 ^ 53 + 1) 0 0) ≡ 3)
