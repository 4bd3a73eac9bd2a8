-- A change of bytes that may draw and may lose: the bytes it leaves, the random state after it, how many draws it made, and
-- how many units it lost (document 02, T-04).
use Rattle.std.specs.Prelude.{ℕ, ◌+◌, List, ◌++◌}

pub record Step : Type 0 where
  pub bytes : List ℕ
  pub state : ℕ
  pub draws : ℕ
  pub lost : ℕ

-- a step by its parts: all others are made by it, so that what a step carries beside these stands in one place
abbrev pub made : List ℕ → ℕ → ℕ → ℕ → Step
made b σ k l = record { bytes = b; state = σ; draws = k; lost = l }

-- bytes for which nothing is drawn, and nothing is lost
abbrev pub still : List ℕ → ℕ → Step
still b σ = made b σ 0 0

-- the same draws and the same loss, with other bytes
abbrev pub leaving : Step → List ℕ → Step
leaving s b = made b s.state s.draws s.lost

-- a step before which so many draws were made
abbrev pub later : ℕ → Step → Step
later k s = made s.bytes s.state (k + s.draws) s.lost

-- a step, and then one on the bytes that it left
abbrev pub followed : Step → Step → Step
followed s r = made r.bytes r.state (s.draws + r.draws) (s.lost + r.lost)

-- a step, and then one on the bytes that stand behind it
abbrev pub chain : Step → Step → Step
chain s r = made (s.bytes ++ r.bytes) r.state (s.draws + r.draws) (s.lost + r.lost)
