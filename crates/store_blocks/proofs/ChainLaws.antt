-- Blocks stand one behind another at equal lengths, so what holds of one block holds of each, by induction on how many there are.
use Prim.Native.Nat.{ℕ, zero, suc, ◌+◌, ◌-◌, ◌*◌, ◌^◌, ◌≤◌, ◌<◌}
use mathlib.Core.Path.{◌≡◌, refl, sym, ap, ap₂, ◌∙◌}
use mathlib.Core.Bool.{true, false, ◌&&◌, and-eq-true_iff}
use mathlib.Core.List.{List, [], ◌++◌}
use lib.ListN.{length, take, drop, get_or, set, length-append, length-drop, take-append-drop}
use lib.Seq.{take_at, drop_at, length-take-le, take-set-le, take-set-lt, get_or-take}
use native.Mathlib.Omega.{arith}
use native.Mathlib.Decide.{dec_lt}
use Rattle.std.proofs.lemmas.List.{nil_from_length}
use Rattle.laws.proofs.PartLaws.{part_length}
use Rattle.store_bytes.specs.Fill.{filled}
use Rattle.store_blocks.specs.Blocks.{block_of, blocks_from, block_passes, blocks_pass, payload_of, payloads_of}
use Rattle.store_bytes.proofs.FillLaws.{Alike, alike_take, alike_drop}
use Rattle.laws.proofs.SmallLaws.{Small, small_take, small_drop}
use Rattle.store_bytes.proofs.FillLaws.{filled_alike, filled_add, drop_at_behind, drop_set_behind}
use Rattle.store_blocks.proofs.BlockLaws.{block_length, block_same, block_payload, block_passes_lem, block_changed, block_back}

pub from_suc : (number count : ℕ) (l : List ℕ) → blocks_from number (suc count) l ≡ block_of number (take 504 l) ++ blocks_from (suc number) count (drop 504 l)
unfolding blocks_from
from_suc number count l = refl

pub from_zero : (number : ℕ) (l : List ℕ) → blocks_from number 0 l ≡ []
unfolding blocks_from
from_zero number l = refl

payloads_zero : (l : List ℕ) → payloads_of 0 l ≡ []
unfolding payloads_of
payloads_zero l = refl

pub pass_zero : (number : ℕ) (l : List ℕ) → blocks_pass number 0 l ≡ true
unfolding blocks_pass
pass_zero number l = refl

pub pass_suc : (number count : ℕ) (l : List ℕ)
    → blocks_pass number (suc count) l ≡ (block_passes number (take 512 l) && blocks_pass (suc number) count (drop 512 l))
unfolding blocks_pass
pass_suc number count l = refl

pub payloads_suc : (count : ℕ) (l : List ℕ) → payloads_of (suc count) l ≡ payload_of (take 512 l) ++ payloads_of count (drop 512 l)
unfolding payloads_of
payloads_suc count l = refl

pub from_length : (number count : ℕ) (l : List ℕ) → length (blocks_from number count l) ≡ 512 * count
unfolding blocks_from
from_length number zero l = refl
from_length number (suc count) l =
    length-append (block_of number (take 504 l)) (blocks_from (suc number) count (drop 504 l))
    ∙ rw (block_length number (take 504 l), from_length (suc number) count (drop 504 l)) (omega arith)

-- the first block of a row, and those behind it
module _ (number : ℕ) (l rest : List ℕ) where
  pub first_taken : take 512 (block_of number l ++ rest) ≡ block_of number l
  first_taken = take_at (block_of number l) rest 512 (block_length number l)

  pub first_dropped : drop 512 (block_of number l ++ rest) ≡ rest
  first_dropped = drop_at (block_of number l) rest 512 (block_length number l)

pub from_passes : (number count : ℕ) (l : List ℕ) → Small l → number + count ≤ 2 ^ 32 → blocks_pass number count (blocks_from number count l) ≡ true
unfolding blocks_pass
from_passes number zero l s h = refl
from_passes number (suc count) l s h =
    rw (from_suc number count l, first_taken number (take 504 l), first_dropped number (take 504 l))
    (ap₂ ◌&&◌ (block_passes_lem number (take 504 l) (small_take 504 l s) (omega arith))
    (from_passes (suc number) count (drop 504 l) (small_drop 504 l s) (omega arith)))

pub from_payloads : (number count : ℕ) (l : List ℕ) → payloads_of count (blocks_from number count l) ≡ filled (504 * count) l
from_payloads number zero l = payloads_zero (blocks_from number 0 l)
from_payloads number (suc count) l =
    let e : 504 + 504 * count ≡ 504 * suc count = omega arith in
    rw (
      from_suc number count l,
      payloads_suc,
      first_taken number (take 504 l),
      first_dropped number (take 504 l),
      block_payload,
      from_payloads (suc number) count (drop 504 l),
      filled_add 504 (504 * count) l,
      e,
    )

-- zeros at the end of what they carry make no difference
pub from_alike : (number count : ℕ) (l m : List ℕ) → Alike l m → blocks_from number count l ≡ blocks_from number count m
unfolding blocks_from
from_alike number zero l m a = refl
from_alike number (suc count) l m a =
    let first = filled_alike 504 (take 504 l) (take 504 m) (alike_take 504 l m a) in
    ap₂ ◌++◌ (block_same number (take 504 l) (take 504 m) first) (from_alike (suc number) count (drop 504 l) (drop 504 m) (alike_drop 504 l m a))

-- BLOCKS AS THEY ARE READ
pub payload_length : (l : List ℕ) → 512 ≤ length l → length (payload_of (take 512 l)) ≡ 504
payload_length l room = part_length 4 504 (take 512 l) (omega (arith, length-take-le 512 l room))

module _ (number count : ℕ) (l : List ℕ) (long : length l ≡ 512 * suc count) where
  head_long : length (take 512 l) ≡ 512
  head_long = length-take-le 512 l (omega arith)

  tail_long : length (drop 512 l) ≡ 512 * count
  tail_long = simp length-drop (omega arith)

  module _ (passes : blocks_pass number (suc count) l ≡ true) where
    both : (block_passes number (take 512 l) ≡ true) × (blocks_pass (suc number) count (drop 512 l) ≡ true)
    both = (and-eq-true_iff (block_passes number (take 512 l)) (blocks_pass (suc number) count (drop 512 l))).0 (rw pass_suc at passes)

    -- a byte of the first block, or one behind it
    changed_from : (k v : ℕ) → k < length l → (v ≡ get_or l k 0 → ⊥)
        → ((j : ℕ) → j < length (drop 512 l) → (v ≡ get_or (drop 512 l) j 0 → ⊥) → blocks_pass (suc number) count (set (drop 512 l) j v) ≡ false)
        → blocks_pass number (suc count) (set l k v) ≡ false
    changed_from k v h ne behind = rw pass_suc (by (dec_lt k 512))
      where
        by : Dec (k < 512) → (block_passes number (take 512 (set l k v)) && blocks_pass (suc number) count (drop 512 (set l k v))) ≡ false
        by (yes q) =
            rw (take-set-lt 512 l k v q, block_changed number (take 512 l) head_long both.0 k v q (λ e. ne (e ∙ get_or-take 512 l k 0 q)))
        by (no q) =
            let m : 512 ≤ k = omega arith in
            rw (take-set-le 512 l k v m, drop_set_behind 512 l k m v, both.0)
            (behind (k - 512) (simp length-drop (omega arith)) (λ z. ne (z ∙ drop_at_behind 512 l k m)))

pub payloads_length : (count : ℕ) (l : List ℕ) → 512 * count ≤ length l → length (payloads_of count l) ≡ 504 * count
payloads_length zero l room = ap length (payloads_zero l)
payloads_length (suc count) l room =
    let tail : 512 * count ≤ length (drop 512 l) = simp length-drop (omega arith) in
    rw payloads_suc
    (length-append (payload_of (take 512 l)) (payloads_of count (drop 512 l))
    ∙ rw (payload_length l (omega arith), payloads_length count (drop 512 l) tail) (omega arith))

-- any one changed byte is refused
pub blocks_changed : (number count : ℕ) (l : List ℕ) (k v : ℕ) → length l ≡ 512 * count → blocks_pass number count l ≡ true
    → k < length l → (v ≡ get_or l k 0 → ⊥) → blocks_pass number count (set l k v) ≡ false
blocks_changed number zero l k v long passes h ne = absurd (omega arith)
blocks_changed number (suc count) l k v long passes h ne =
    changed_from number count l long passes k v h ne
    (λ j. blocks_changed (suc number) count (drop 512 l) j v (tail_long number count l long) (both number count l long passes).1)

-- their numbers and their payloads make the blocks
pub blocks_back : (number count : ℕ) (l : List ℕ) → length l ≡ 512 * count → blocks_pass number count l ≡ true → Small l
    → blocks_from number count (payloads_of count l) ≡ l
blocks_back number zero l long passes small = from_zero number (payloads_of 0 l) ∙ sym (nil_from_length l long)
blocks_back number (suc count) l long passes small =
    let good = both number count l long passes in
    let h : length (take 512 l) ≡ 512 = head_long number count l long in
    let p : length (payload_of (take 512 l)) ≡ 504 = payload_length l (omega arith) in
    rw (
      payloads_suc,
      from_suc number count,
      take_at (payload_of (take 512 l)) (payloads_of count (drop 512 l)) 504 p,
      drop_at (payload_of (take 512 l)) (payloads_of count (drop 512 l)) 504 p,
      block_back number (take 512 l) h good.0 (small_take 512 l small),
      blocks_back (suc number) count (drop 512 l) (tail_long number count l long) good.1 (small_drop 512 l small),
    )
    (take-append-drop 512 l)
