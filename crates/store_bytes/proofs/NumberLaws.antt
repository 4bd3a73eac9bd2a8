-- Eight bytes hold every u64, and zeros behind a number's bytes add nothing to it: so the library's conversions at eight bytes give it at any width.
use Prim.Native.Nat.{ℕ, zero, suc, ◌/◌, ◌^◌, ◌≤◌, ◌<◌}
use mathlib.Core.Path.{◌≡◌, refl, ap, ◌∙◌}
use mathlib.Core.List.{List, [], ◌∷◌}
use lib.ListN.{length, get_or}
use lib.Seq.{take_all}
use native.Mathlib.Omega.{arith}
use native.Mathlib.Nat.{pow-suc, div-div-eq-div-mul}
use Rattle.std.specs.Int.{w64, to_le_bytes, from_le_bytes}
use Rattle.laws.specs.Bytes.{number_of, bytes_of}
use Rattle.laws.specs.Parts.{part}
use Rattle.laws.proofs.ByteLaws.{bytes_length, number_part}
use Rattle.store_bytes.specs.Fill.{filled}
use Rattle.store_bytes.proofs.FillLaws.{Alike, alike_filled, filled_is, filled_length}

-- WRITTEN
bytes_at : (v w n i : ℕ) → n < 256 ^ v → i < w → get_or (bytes_of v n) i 0 ≡ get_or (bytes_of w n) i 0
unfolding bytes_of
bytes_at v zero n i few h = absurd (omega arith)
bytes_at zero (suc w) n zero few h = omega arith
bytes_at zero (suc w) n (suc i) few h = bytes_at zero w (n / 256) i (omega arith) (omega arith)
bytes_at (suc v) (suc w) n zero few h = refl
bytes_at (suc v) (suc w) n (suc i) few h = bytes_at v w (n / 256) i (omega (arith, pow-suc 256 v)) (omega arith)

-- bytes that hold the whole number, cut off or zero-filled
filled_bytes : (v w n : ℕ) → n < 256 ^ v → filled w (bytes_of v n) ≡ bytes_of w n
filled_bytes v w n few = filled_is w (bytes_of v n) (bytes_of w n) (bytes_length w n) (λ i h. bytes_at v w n i few h)

eight_bytes : (n : ℕ) → to_le_bytes w64 n ≡ bytes_of 8 n
unfolding bytes_of
eight_bytes n = simp (div-div-eq-div-mul) refl

pub number_put : (w n : ℕ) (b : List ℕ) → n < 2 ^ 64 → b ≡ filled w (to_le_bytes w64 n) → b ≡ bytes_of w n
number_put w n b few e = e ∙ ap (filled w) (eight_bytes n) ∙ filled_bytes 8 w n few

-- READ
take_eight : (l : List ℕ) → from_le_bytes w64 l ≡ number_of (part 0 8 l)
unfolding number_of
take_eight l = rw (number_part 7, number_part 6, number_part 5, number_part 4, number_part 3, number_part 2, number_part 1, number_part 0) (omega arith)

number_alike : (l m : List ℕ) → Alike l m → number_of l ≡ number_of m
unfolding number_of
number_alike [] [] a = refl
number_alike [] (y ∷ ys) a = omega (arith, a 0, number_alike [] ys (λ i. a (suc i)))
number_alike (x ∷ xs) [] a = omega (arith, a 0, number_alike xs [] (λ i. a (suc i)))
number_alike (x ∷ xs) (y ∷ ys) a = rw (a 0, number_alike xs ys (λ i. a (suc i)))

pub number_read : (l b : List ℕ) (n : ℕ) → length b ≤ 8 → l ≡ filled 8 b → n ≡ from_le_bytes w64 l → n ≡ number_of b
number_read l b n short e en =
    let long : length l ≤ 8 = rw e (omega (arith, filled_length 8 b)) in
    en ∙ take_eight l ∙ ap number_of (take_all 8 l long) ∙ rw e (number_alike (filled 8 b) b (alike_filled 8 b short))
