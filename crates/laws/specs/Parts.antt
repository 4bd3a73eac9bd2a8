-- A part of a list, and a list with a part replaced.
use Rattle.std.specs.Prelude.{ℕ, List, ◌++◌, take, drop}

-- the `size` elements from `start` on
abbrev pub part : ℕ → ℕ → List ℕ → List ℕ
part start size l = take size (drop start l)

-- the `size` elements from `start` on replaced by the piece
abbrev pub splice : ℕ → ℕ → List ℕ → List ℕ → List ℕ
splice start size piece l = take start l ++ (piece ++ drop size (drop start l))
