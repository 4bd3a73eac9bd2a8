-- The least, the largest and the sum of f 0, f 1 to f k.
use Rattle.std.specs.Prelude.{ℕ, zero, suc, ◌+◌, min, max}

unfoldable pub least : ℕ → (ℕ → ℕ) → ℕ
least zero f = f 0
least (suc k) f = min (least k f) (f (suc k))

unfoldable pub largest : ℕ → (ℕ → ℕ) → ℕ
largest zero f = f 0
largest (suc k) f = max (largest k f) (f (suc k))

unfoldable pub total : ℕ → (ℕ → ℕ) → ℕ
total zero f = f 0
total (suc k) f = total k f + f (suc k)
