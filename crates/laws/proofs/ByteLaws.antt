-- Each byte is a digit to the base 256, so writing and reading are a division with remainder and its inverse, digit by digit.
use Prim.Native.Nat.{ℕ, zero, suc, ◌+◌, ◌*◌, ◌/◌, ◌%◌, ◌^◌, ◌≤◌, ◌<◌}
use mathlib.Core.Path.{◌≡◌, refl, sym, ap, ◌∙◌}
use mathlib.Core.List.{List, [], ◌∷◌}
use lib.ListN.{length, get_or, set, drop_of_length-le, get_or-eq_default}
use lib.Seq.{drop-cons, take-nil}
use lib.Arith.{mod-mul}
use native.Mathlib.Omega.{arith}
use native.Mathlib.Nat.{pow-suc, one-le-pow, mod-one, mod-lt, mod-eq_of_lt, add_assoc, div-div-eq-div-mul}
use native.Mathlib.Numerals.{add-one, towards_suc}
use native.Mathlib.Decide.{dec_lt}
use Rattle.laws.specs.Bytes.{number_of, bytes_of}
use Rattle.laws.specs.Parts.{part, splice}
use Rattle.laws.proofs.PartLaws.{splice_part, sets_splice}
use Rattle.laws.proofs.SmallLaws.{Small}

-- WRITTEN
pub bytes_length : (w n : ℕ) → length (bytes_of w n) ≡ w
unfolding bytes_of
bytes_length zero n = refl
bytes_length (suc w) n = ap suc (bytes_length w (n / 256))

pub bytes_small : (w n : ℕ) → Small (bytes_of w n)
unfolding bytes_of
bytes_small zero n i = omega arith
bytes_small (suc w) n zero = mod-lt n (omega arith)
bytes_small (suc w) n (suc i) = bytes_small w (n / 256) i

pub number_bytes : (w n : ℕ) → number_of (bytes_of w n) ≡ n % 256 ^ w
unfolding number_of bytes_of
number_bytes zero n = sym (mod-one n)
number_bytes (suc w) n =
    let positive : 1 ≤ 256 ^ w = one-le-pow w 256 (omega arith) in
    rw (number_bytes w (n / 256), pow-suc 256 w, mod-mul n {m = 256 ^ w} {c = 256} positive (omega arith)) (omega arith)

pub number_bytes_small : (w n : ℕ) → n < 256 ^ w → number_of (bytes_of w n) ≡ n
number_bytes_small w n h = number_bytes w n ∙ mod-eq_of_lt h

-- READ
pub number_below : (w : ℕ) (l : List ℕ) → length l ≤ w → Small l → number_of l < 256 ^ w
unfolding number_of
number_below w [] h small = one-le-pow w 256 (omega arith)
number_below zero (x ∷ xs) h small = absurd (omega arith)
number_below (suc w) (x ∷ xs) h small = rw (pow-suc 256 w) (omega (arith, small 0, number_below w xs (omega arith) (λ i. small (suc i))))

pub bytes_number : (w : ℕ) (l : List ℕ) → length l ≡ w → Small l → bytes_of w (number_of l) ≡ l
unfolding number_of bytes_of
bytes_number zero [] h small = refl
bytes_number zero (x ∷ xs) h small = absurd (omega arith)
bytes_number (suc w) [] h small = absurd (omega arith)
bytes_number (suc w) (x ∷ xs) h small =
    let low : (x + 256 * number_of xs) % 256 ≡ x = omega (arith, small 0) in
    let high : (x + 256 * number_of xs) / 256 ≡ number_of xs = omega (arith, small 0) in
    rw (low, high, bytes_number w xs (omega arith) (λ i. small (suc i)))

-- bytes that make up 0 are all 0
pub no_bytes : (w : ℕ) (l : List ℕ) → length l ≡ w → number_of l ≡ 0 → bytes_of w 0 ≡ l
unfolding number_of bytes_of
no_bytes zero [] h e = refl
no_bytes zero (x ∷ xs) h e = absurd (omega arith)
no_bytes (suc w) [] h e = absurd (omega arith)
no_bytes (suc w) (x ∷ xs) h e =
    let none : x ≡ 0 = omega arith in
    rw none (ap (λ (l : List ℕ). 0 ∷ l) (no_bytes w xs (omega arith) (omega arith)))

-- IN PLACE
pub number_splice : (w a n : ℕ) (b : List ℕ) → a + w ≤ length b → n < 256 ^ w → number_of (part a w (splice a w (bytes_of w n) b)) ≡ n
number_splice w a n b room h = rw (splice_part a w (bytes_of w n) b room (bytes_length w n)) (number_bytes_small w n h)

-- the lowest byte, and the rest
pub number_part : (w a : ℕ) (b : List ℕ) → number_of (part a (suc w) b) ≡ get_or b a 0 + 256 * number_of (part (a + 1) w b)
unfolding number_of
number_part w a b = by (dec_lt a (length b))
  where
    by : Dec (a < length b) → number_of (part a (suc w) b) ≡ get_or b a 0 + 256 * number_of (part (a + 1) w b)
    by (yes h) = rw (add-one, drop-cons b a 0 h)
    by (no h) =
        let l : length b ≤ a = omega arith in
        let m : length b ≤ a + 1 = omega arith in
        rw (drop_of_length-le b l, drop_of_length-le b m, get_or-eq_default b 0 l, take-nil w)

-- four bytes, as they are read and stored one by one
pub word_part : (a : ℕ) (b : List ℕ) → number_of (part a 4 b) ≡ get_or b a 0 + get_or b (a + 1) 0 * 256 + get_or b (a + 2) 0 * 65536 + get_or b (a + 3) 0 * 16777216
unfolding number_of
word_part a b = rw (number_part 3, number_part 2, number_part 1, number_part 0) (simp add_assoc (omega arith))

module _ (a v : ℕ) (b : List ℕ) where
  -- b with the lowest four bytes of v stored from a on
  abbrev word : List ℕ
  word = set (set (set (set b a (v % 256)) (a + 1) (v / 256 % 256)) (a + 2) (v / 65536 % 256)) (a + 3) (v / 16777216 % 256)

  pub word_splice : a + 4 ≤ length b → word ≡ splice a 4 (bytes_of 4 v) b
  unfolding bytes_of
  word_splice room = simp (towards_suc, ← div-div-eq-div-mul v 256 256, ← div-div-eq-div-mul v 65536 256) (sets_splice a (bytes_of 4 v) b room)
