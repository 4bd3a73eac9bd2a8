-- A step on each of equal pieces of a list, in order, the random state passed on from piece to piece.
use Rattle.std.specs.Prelude.{ℕ, zero, suc, List, take, drop}
use Rattle.laws.specs.Steps.{Step, still, chain}

-- `f j` of the j-th piece: k pieces of `size` elements, numbered from j on
unfoldable pub each_of : (ℕ → List ℕ → ℕ → Step) → ℕ → ℕ → ℕ → List ℕ → ℕ → Step
each_of f size j zero l σ = still l σ
each_of f size j (suc k) l σ = chain (f j (take size l) σ) (each_of f size (suc j) k (drop size l) (f j (take size l) σ).state)
