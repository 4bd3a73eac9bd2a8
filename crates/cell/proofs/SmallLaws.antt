-- A byte stored into a list of bytes leaves a list of bytes. Assumes nothing.
use Prim.Native.Nat.{ℕ, zero, suc, ◌<◌}
use mathlib.Core.List.{List, [], ◌∷◌}
use lib.ListN.{get_or, set}
use Rattle.laws.proofs.SmallLaws.{Small}

-- for any bound, since a pixel that is to be divided may count as 256
pub bounded_set : (m : ℕ) (b : List ℕ) (k v : ℕ) → v < m → ((i : ℕ) → get_or b i 0 < m) → (i : ℕ) → get_or (set b k v) i 0 < m
bounded_set m [] k v h p i = p i
bounded_set m (x ∷ xs) zero v h p zero = h
bounded_set m (x ∷ xs) zero v h p (suc i) = p (suc i)
bounded_set m (x ∷ xs) (suc k) v h p zero = p 0
bounded_set m (x ∷ xs) (suc k) v h p (suc i) = bounded_set m xs k v h (λ j. p (suc j)) i

pub small_set : (b : List ℕ) (k v : ℕ) → v < 256 → Small b → Small (set b k v)
small_set = bounded_set 256
