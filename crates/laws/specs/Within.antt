-- One number near another.
use Rattle.std.specs.Prelude.{ℕ, ◌+◌, ◌≤◌}

-- a is within e of b: two inequalities, and no difference that could be cut off at 0
pub record Within (e a b : ℕ) : Type 0 where
  pub low : a ≤ b + e
  pub high : b ≤ a + e
