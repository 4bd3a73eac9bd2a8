-- A splice is three lists in a row, and each index lies in one of them: before the piece, in it, or behind it.
use Prim.Native.Nat.{ℕ, suc, ◌+◌, ◌-◌, ◌*◌, ◌≤◌, ◌<◌}
use mathlib.Core.Path.{◌≡◌, sym, ◌∙◌}
use mathlib.Core.List.{List, ◌++◌, append_assoc}
use lib.ListN.{length, take, drop, get_or, length-take, length-drop, length-append, get_or-append}
use lib.Seq.{take_at, drop_at, take-append-add, drop-append-add, drop-drop, get_or-take, get_or-drop, length-take-le, ext_get_or, sets, sets-eq}
use native.Mathlib.Omega.{arith}
use native.Mathlib.Nat.{suc-mul, add_comm, mul-le-mul_right, le_refl}
use native.Mathlib.Decide.{ℕ_discrete, dec_lt}
use Rattle.laws.specs.Parts.{part, splice}

module _ (a d : ℕ) (l : List ℕ) where
  pub part_at : (i : ℕ) → i < d → get_or (part a d l) i 0 ≡ get_or l (a + i) 0
  part_at i h = get_or-take d (drop a l) i 0 h ∙ get_or-drop a l i 0

  pub part_length : a + d ≤ length l → length (part a d l) ≡ d
  part_length room = simp (length-take, length-drop) (omega arith)

-- a part is its elements
pub part_same : (a d : ℕ) (l m : List ℕ) → length l ≡ length m → ((i : ℕ) → i < d → get_or l (a + i) 0 ≡ get_or m (a + i) 0) → part a d l ≡ part a d m
part_same a d l m e h =
    ext_get_or 0 (part a d l) (part a d m) (simp (length-take, length-drop, e))
    (λ i q. let i<d : i < d = omega (arith, simp (length-take, length-drop) at q) in part_at a d l i i<d ∙ h i i<d ∙ sym (part_at a d m i i<d))

module _ (a d : ℕ) (ys l : List ℕ) (room : a + d ≤ length l) (long : length ys ≡ d) where
  front : length (take a l) ≡ a
  front = length-take-le a l (omega arith)

  done : length (take a l ++ ys) ≡ a + d
  done = length-append (take a l) ys ∙ rw (front, long)

  pub splice_length : length (splice a d ys l) ≡ length l
  splice_length = simp (length-append, length-take, length-drop) (omega arith)

  pub splice_taken : take (a + d) (splice a d ys l) ≡ take a l ++ ys
  splice_taken = rw (← append_assoc) (take_at (take a l ++ ys) (drop d (drop a l)) (a + d) done)

  pub splice_dropped : drop (a + d) (splice a d ys l) ≡ drop (a + d) l
  splice_dropped = rw (← append_assoc) (drop_at (take a l ++ ys) (drop d (drop a l)) (a + d) done ∙ drop-drop d a l)

  pub splice_part : part a d (splice a d ys l) ≡ ys
  splice_part = rw (drop_at (take a l) (ys ++ drop d (drop a l)) a front) (take_at ys (drop d (drop a l)) d long)

  pub splice_at_before : (i : ℕ) → i < a → get_or (splice a d ys l) i 0 ≡ get_or l i 0
  splice_at_before i h = get_or-append (take a l) (ys ++ drop d (drop a l)) 0 i (omega (arith, front)) ∙ get_or-take a l i 0 h

  pub splice_at_behind : (i : ℕ) → a + d ≤ i → get_or (splice a d ys l) i 0 ≡ get_or l i 0
  splice_at_behind i h =
      let e : i ≡ a + d + (i - (a + d)) = omega arith in
      rw e (sym (get_or-drop (a + d) (splice a d ys l) (i - (a + d)) 0) ∙ rw splice_dropped (get_or-drop (a + d) l (i - (a + d)) 0))

  pub splice_before : (s k : ℕ) → s + k ≤ a → part s k (splice a d ys l) ≡ part s k l
  splice_before s k h = part_same s k (splice a d ys l) l splice_length (λ i q. splice_at_before (s + i) (omega arith))

  pub splice_behind : (s k : ℕ) → a + d ≤ s → part s k (splice a d ys l) ≡ part s k l
  splice_behind s k h = part_same s k (splice a d ys l) l splice_length (λ i q. splice_at_behind (s + i) (omega arith))

-- behind a list of d elements
pub splice_append : (a d k : ℕ) (xs ys l : List ℕ) → length xs ≡ d → splice (d + a) k ys (xs ++ l) ≡ xs ++ splice a k ys l
splice_append a d k xs ys l e = rw (← e, take-append-add xs l a, drop-append-add xs l a, append_assoc)

-- stores one after another are one splice
pub sets_splice : (a : ℕ) (vs l : List ℕ) → a + length vs ≤ length l → sets l a vs ≡ splice a (length vs) vs l
sets_splice a vs l room = sets-eq vs l a room ∙ rw (drop-drop (length vs) a l, append_assoc)

-- EQUAL PIECES: piece j of a list is the d elements from j * d on
pub piece_room : (d k j n : ℕ) → j < k → k * d ≤ n → j * d + d ≤ n
piece_room d k j n h room =
    let m : suc j * d ≤ k * d = mul-le-mul_right d h in
    omega (arith, suc-mul j d)

-- the piece behind i begins one piece further than i does
pub further : (d i : ℕ) → suc i * d ≡ d + i * d
further d i = suc-mul i d ∙ add_comm (i * d) d

module _ (d k j : ℕ) (ys l : List ℕ) (inside : j < k) (room : k * d ≤ length l) (long : length ys ≡ d) where
  here : j * d + d ≤ length l
  here = piece_room d k j (length l) inside room

  pub piece_other : (i : ℕ) → (i ≡ j → ⊥) → part (i * d) d (splice (j * d) d ys l) ≡ part (i * d) d l
  piece_other i ne = by (dec_lt i j)
    where
      by : Dec (i < j) → part (i * d) d (splice (j * d) d ys l) ≡ part (i * d) d l
      by (yes h) = splice_before (j * d) d ys l here long (i * d) d (piece_room d j i (j * d) h (le_refl (j * d)))
      by (no h) = splice_behind (j * d) d ys l here long (i * d) d (piece_room d i j (i * d) (omega arith) (le_refl (i * d)))

  pub pieces_splice : (P : ℕ → List ℕ → Type 0) → P j ys → ((i : ℕ) → i < k → P i (part (i * d) d l))
      → (i : ℕ) → i < k → P i (part (i * d) d (splice (j * d) d ys l))
  pieces_splice P p all i h = by (ℕ_discrete i j)
    where
      by : Dec (i ≡ j) → P i (part (i * d) d (splice (j * d) d ys l))
      by (yes e) = rw (e, splice_part (j * d) d ys l here long) p
      by (no ne) = rw (piece_other i ne) (all i h)
