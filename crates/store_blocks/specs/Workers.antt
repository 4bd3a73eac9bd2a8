-- What the workers promise each other. No public contract cites this file.
use Rattle.std.specs.Prelude.{ℕ, ◌+◌, ◌%◌, ◌<◌, ◌≤◌}

-- so many of the bytes that are left, and all of them in the block that carries byte j
pub record InBlock (j left n : ℕ) : Type 0 where
  pub some : 0 < n
  pub most : n ≤ left
  pub inside : j % 504 + n ≤ 504
