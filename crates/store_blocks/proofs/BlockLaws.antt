-- The sum gives each byte a weight of its own, so no byte can change alone; all else of a block is its number and its payload, read where they were written.
use Prim.Native.Nat.{ℕ, zero, suc, ◌+◌, ◌-◌, ◌*◌, ◌^◌, ◌≤◌, ◌<◌}
use mathlib.Core.Path.{◌≡◌, refl, sym, ap, ap₂, ◌∙◌}
use mathlib.Core.Bool.{true, false, ◌&&◌, and-eq-true_iff, and-false}
use mathlib.Core.List.{List, [], ◌∷◌, ◌++◌, append_assoc}
use lib.Dec.{eqb}
use lib.ListN.{length, take, drop, get_or, set, length-append, length-take, length-drop, take-append-drop}
use lib.Seq.{take_at, drop_at, take-add, take-set-le, take-set-lt, drop-set-lt, get_or-take}
use native.Mathlib.Omega.{arith}
use native.Mathlib.Nat.{mul-le-mul, add_right_cancel, eq_of_mul-eq-mul_right}
use native.Mathlib.Decide.{dec_lt}
use borrow.Author.Tests.{eqb-true, eq-eqb, ne_eqb}
use Rattle.laws.specs.Bytes.{number_of, bytes_of}
use Rattle.laws.proofs.ByteLaws.{bytes_length, bytes_small, number_bytes_small, bytes_number}
use Rattle.store_bytes.specs.Fill.{filled}
use Rattle.store_blocks.specs.Blocks.{weighed_from, body_of, block_of, block_passes, payload_of}
use Rattle.laws.proofs.SmallLaws.{Small, small_append, small_take, small_drop}
use Rattle.store_bytes.proofs.FillLaws.{filled_length, filled_small, filled_full, drop_at_behind, drop_set_behind}

-- THE SUM
pub weighed_cons : (i x : ℕ) (xs : List ℕ) → weighed_from i (x ∷ xs) ≡ x * (i + 1) + weighed_from (suc i) xs
unfolding weighed_from
weighed_cons i x xs = refl

weighed_limit : (m i : ℕ) (l : List ℕ) → i + length l ≤ m → Small l → weighed_from i l ≤ length l * (255 * m)
unfolding weighed_from
weighed_limit m i [] h s = omega arith
weighed_limit m i (x ∷ xs) h s =
    let a : x * (i + 1) ≤ 255 * m = mul-le-mul (omega (arith, s 0)) (omega arith) in
    omega (arith, weighed_limit m (suc i) xs (omega arith) (λ j. s (suc j)))

-- the same sum, and the same number, only from the same byte
weighed_changed : (i : ℕ) (l : List ℕ) (k v : ℕ) → k < length l → weighed_from i (set l k v) ≡ weighed_from i l → v ≡ get_or l k 0
unfolding weighed_from
weighed_changed i [] k v h e = absurd (omega arith)
weighed_changed i (x ∷ xs) zero v h e = eq_of_mul-eq-mul_right (i + 1) (omega arith) v x (add_right_cancel (weighed_from (suc i) xs) e)
weighed_changed i (x ∷ xs) (suc k) v h e = weighed_changed (suc i) xs k v (omega arith) (omega arith)

number_changed : (l : List ℕ) (k v : ℕ) → k < length l → number_of (set l k v) ≡ number_of l → v ≡ get_or l k 0
unfolding number_of
number_changed [] k v h e = absurd (omega arith)
number_changed (x ∷ xs) zero v h e = omega arith
number_changed (x ∷ xs) (suc k) v h e = number_changed xs k v (omega arith) (omega arith)

-- A BLOCK AS IT IS WRITTEN
module _ (number : ℕ) (payload : List ℕ) where
  body_length : length (body_of number payload) ≡ 508
  body_length = length-append (bytes_of 4 number) (filled 504 payload) ∙ rw (bytes_length 4 number, filled_length 504 payload)

  abbrev seal : List ℕ
  seal = bytes_of 4 (weighed_from 0 (body_of number payload))

  pub block_length : length (block_of number payload) ≡ 512
  unfolding block_of
  block_length = length-append (body_of number payload) seal ∙ rw (body_length, bytes_length 4 (weighed_from 0 (body_of number payload)))

  block_body : take 508 (block_of number payload) ≡ body_of number payload
  unfolding block_of
  block_body = take_at (body_of number payload) seal 508 body_length

  block_seal : drop 508 (block_of number payload) ≡ seal
  unfolding block_of
  block_seal = drop_at (body_of number payload) seal 508 body_length

  block_number : take 4 (block_of number payload) ≡ bytes_of 4 number
  unfolding block_of
  block_number = rw append_assoc (take_at (bytes_of 4 number) (filled 504 payload ++ seal) 4 (bytes_length 4 number))

  pub block_payload : payload_of (block_of number payload) ≡ filled 504 payload
  unfolding block_of
  block_payload =
      rw (append_assoc, drop_at (bytes_of 4 number) (filled 504 payload ++ seal) 4 (bytes_length 4 number))
      (take_at (filled 504 payload) seal 504 (filled_length 504 payload))

  module _ (small : Small payload) where
    body_small : Small (body_of number payload)
    body_small = small_append (bytes_of 4 number) (filled 504 payload) (bytes_small 4 number) (filled_small 504 payload small)

    sum_fits : weighed_from 0 (body_of number payload) < 256 ^ 4
    sum_fits = omega (arith, rw body_length at (weighed_limit 508 0 (body_of number payload) (omega (arith, body_length)) body_small))

    pub block_passes_lem : number < 2 ^ 32 → block_passes number (block_of number payload) ≡ true
    unfolding block_passes
    block_passes_lem h =
        rw (block_number, block_seal, block_body)
        (ap₂ ◌&&◌ (eq-eqb _ _ (number_bytes_small 4 number h)) (eq-eqb _ _ (number_bytes_small 4 (weighed_from 0 (body_of number payload)) sum_fits)))

pub block_same : (number : ℕ) (l m : List ℕ) → filled 504 l ≡ filled 504 m → block_of number l ≡ block_of number m
unfolding block_of
block_same number l m e = rw e

-- A BLOCK AS IT IS READ
module _ (number : ℕ) (b : List ℕ) (long : length b ≡ 512) (passes : block_passes number b ≡ true) where
  both : (eqb (number_of (take 4 b)) number ≡ true) × (eqb (number_of (drop 508 b)) (weighed_from 0 (take 508 b)) ≡ true)
  unfolding block_passes
  both = (and-eq-true_iff (eqb (number_of (take 4 b)) number) (eqb (number_of (drop 508 b)) (weighed_from 0 (take 508 b)))).0 passes

  number_is : number_of (take 4 b) ≡ number
  number_is = eqb-true _ _ both.0

  sum_is : number_of (drop 508 b) ≡ weighed_from 0 (take 508 b)
  sum_is = eqb-true _ _ both.1

  -- any one changed byte is refused
  pub block_changed : (k v : ℕ) → k < 512 → (v ≡ get_or b k 0 → ⊥) → block_passes number (set b k v) ≡ false
  unfolding block_passes
  block_changed k v h ne = rw (by (dec_lt k 508)) (and-false (eqb (number_of (take 4 (set b k v))) number))
    where
      by : Dec (k < 508) → eqb (number_of (drop 508 (set b k v))) (weighed_from 0 (take 508 (set b k v))) ≡ false
      by (yes q) =
          rw (drop-set-lt 508 b k v q, take-set-lt 508 b k v q)
          (ne_eqb _ _ (λ e. ne (weighed_changed 0 (take 508 b) k v (simp length-take (omega arith)) (sym e ∙ sum_is) ∙ get_or-take 508 b k 0 q)))
      by (no q) =
          let m : 508 ≤ k = omega arith in
          rw (take-set-le 508 b k v m, drop_set_behind 508 b k m v)
          (ne_eqb _ _ (λ z. ne (number_changed (drop 508 b) (k - 508) v (simp length-drop (omega arith)) (z ∙ sym sum_is) ∙ drop_at_behind 508 b k m)))

  -- its number and its payload make the block
  pub block_back : Small b → block_of number (payload_of b) ≡ b
  unfolding block_of
  block_back small =
      let first : bytes_of 4 (number_of (take 4 b)) ≡ take 4 b = bytes_number 4 (take 4 b) (simp length-take (omega arith)) (small_take 4 b small) in
      let last : bytes_of 4 (number_of (drop 508 b)) ≡ drop 508 b = bytes_number 4 (drop 508 b) (simp length-drop (omega arith)) (small_drop 508 b small) in
      let front : bytes_of 4 number ≡ take 4 b = ap (bytes_of 4) (sym number_is) ∙ first in
      let middle : filled 504 (payload_of b) ≡ payload_of b = filled_full 504 (payload_of b) (simp (length-take, length-drop) (omega arith)) in
      let body : body_of number (payload_of b) ≡ take 508 b = ap₂ ◌++◌ front middle ∙ sym (take-add 4 504 b) in
      let seal : bytes_of 4 (weighed_from 0 (take 508 b)) ≡ drop 508 b = ap (bytes_of 4) (sym sum_is) ∙ last in
      rw (body, seal) (take-append-drop 508 b)
