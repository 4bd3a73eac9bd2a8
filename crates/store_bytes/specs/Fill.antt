-- Document 01, "Audit and block store": the zero fill.
use Rattle.std.specs.Prelude.{ℕ, Bool, true, ◌&&◌, List, [], ◌∷◌, ◌++◌, eqb, take, replicate}

-- a list cut off or zero-filled to n bytes
abbrev pub filled : ℕ → List ℕ → List ℕ
filled n l = take n (l ++ replicate n 0)

-- nothing but zeros, as the fill is
unfoldable pub all_zero : List ℕ → Bool
all_zero [] = true
all_zero (x ∷ xs) = eqb x 0 && all_zero xs
