-- Powers: the largest one that four bytes hold.
use Rattle.std.specs.Prelude.{ℕ, zero, suc, ◌-◌, ◌^◌, cond, leb}

-- the largest z, of 0 to k, with c ^ z ≤ 2 ^ 32 − 1
unfoldable pub highest : ℕ → ℕ → ℕ
highest c zero = 0
highest c (suc k) = cond (leb (c ^ suc k) (2 ^ 32 - 1)) (suc k) (highest c k)
