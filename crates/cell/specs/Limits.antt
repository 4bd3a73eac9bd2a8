-- Document 01, "Settings and cell": t is 1 to 4,096, c is 2 to 256: the last that are accepted and the first that are not, by their numbers.
use Rattle.std.specs.Prelude.{ℕ, ◌≡◌}
use Rattle.refusal.specs.Refusals.{number_of}
use Rattle.cell.specs.Refusals.{params_verdict}

abbrev pub refused_by : ℕ → ℕ → ℕ
refused_by t c = number_of (params_verdict (record { t = t; c = c }))

pub record Limits : Type 0 where
  pub least : refused_by 1 2 ≡ 0
  pub most : refused_by 4096 256 ≡ 0
  pub t_low : refused_by 0 2 ≡ 1
  pub t_high : refused_by 4097 2 ≡ 1
  pub c_low : refused_by 1 1 ≡ 2
  pub c_high : refused_by 1 257 ≡ 2
  pub both : refused_by 0 257 ≡ 1
