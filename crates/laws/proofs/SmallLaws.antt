-- Lists of bytes: parts of them and joins of them are lists of bytes again. Assumes nothing.
use Prim.Native.Nat.{ℕ, zero, suc, ◌+◌, ◌<◌}
use mathlib.Core.List.{List, [], ◌∷◌, ◌++◌}
use lib.ListN.{take, drop, get_or}
use lib.Seq.{get_or-drop}
use native.Mathlib.Omega.{arith}

-- every element is a byte
abbrev pub Small : List ℕ → Type 0
Small l = (i : ℕ) → get_or l i 0 < 256

pub small_append : (l m : List ℕ) → Small l → Small m → Small (l ++ m)
small_append [] m sl sm i = sm i
small_append (x ∷ xs) m sl sm zero = sl 0
small_append (x ∷ xs) m sl sm (suc i) = small_append xs m (λ j. sl (suc j)) sm i

pub small_take : (n : ℕ) (l : List ℕ) → Small l → Small (take n l)
small_take zero l s i = omega arith
small_take (suc n) [] s i = omega arith
small_take (suc n) (x ∷ xs) s zero = s 0
small_take (suc n) (x ∷ xs) s (suc i) = small_take n xs (λ j. s (suc j)) i

pub small_drop : (n : ℕ) (l : List ℕ) → Small l → Small (drop n l)
small_drop n l s i = rw (get_or-drop n l i 0) (s (n + i))
