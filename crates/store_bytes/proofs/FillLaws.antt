-- Past its end a list reads 0, so filling it with zeros changes nothing that is read: two lists that read alike are filled alike.
use Prim.Native.Nat.{ℕ, zero, suc, min, ◌+◌, ◌-◌, ◌≤◌, ◌<◌}
use mathlib.Core.Path.{◌≡◌, refl, sym, ap, ap₂, ◌∙◌}
use mathlib.Core.Bool.{true, ◌&&◌, and-eq-true_iff}
use mathlib.Core.List.{List, [], ◌∷◌, ◌++◌, append-nil}
use lib.Dec.{eqb}
use lib.ListN.{length, take, drop, get_or, set, replicate, length-take, length-drop, length-append, length-replicate}
use lib.ListN.{drop_of_length-le, get_or-append, get_or-eq_default}
use lib.Seq.{take_all, take_at, length-take-le, drop_at, drop-drop, ext_get_or, get_or-take, get_or-drop, get_or-append-add, drop-set-add}
use native.Mathlib.Omega.{arith}
use native.Mathlib.Decide.{dec_lt}
use borrow.Author.Tests.{eqb-true, eq-eqb}
use Rattle.std.specs.List.{list_all}
use Rattle.laws.specs.Parts.{part}
use Rattle.laws.proofs.PartLaws.{part_at}
use Rattle.laws.proofs.SmallLaws.{Small, small_take}
use Rattle.store_bytes.specs.Fill.{filled, all_zero}

-- the same up to zeros behind them
abbrev pub Alike : List ℕ → List ℕ → Type 0
Alike l m = (i : ℕ) → get_or l i 0 ≡ get_or m i 0

pub alike_take : (n : ℕ) (l m : List ℕ) → Alike l m → Alike (take n l) (take n m)
alike_take n l m a i = by (dec_lt i n)
  where
    past : (l : List ℕ) → n ≤ i → get_or (take n l) i 0 ≡ 0
    past l h = get_or-eq_default (take n l) 0 (simp length-take (omega arith))

    by : Dec (i < n) → get_or (take n l) i 0 ≡ get_or (take n m) i 0
    by (yes h) = get_or-take n l i 0 h ∙ a i ∙ sym (get_or-take n m i 0 h)
    by (no h) = past l (omega arith) ∙ sym (past m (omega arith))

pub alike_drop : (n : ℕ) (l m : List ℕ) → Alike l m → Alike (drop n l) (drop n m)
alike_drop n l m a i = get_or-drop n l i 0 ∙ a (n + i) ∙ sym (get_or-drop n m i 0)

-- a part of the first n
pub part_take : (a d n : ℕ) (l : List ℕ) → a + d ≤ n → part a d (take n l) ≡ part a d l
part_take a d n l room =
    ext_get_or 0 (part a d (take n l)) (part a d l) (simp (length-take, length-drop) (omega arith))
    (λ i h.
    let inside : i < d = omega (arith, simp (length-take, length-drop) at h) in
    part_at a d (take n l) i inside ∙ get_or-take n l (a + i) 0 (omega arith) ∙ sym (part_at a d l i inside))

-- a part of a part
pub part_part : (a i n d : ℕ) (l : List ℕ) → i + n ≤ d → part i n (part a d l) ≡ part (a + i) n l
part_part a i n d l h = part_take i n d (drop a l) h ∙ rw (drop-drop i a l)

-- behind the first n
module _ (n : ℕ) (l : List ℕ) (i : ℕ) (h : n ≤ i) where
  from_there : n + (i - n) ≡ i
  from_there = omega arith

  pub drop_at_behind : get_or (drop n l) (i - n) 0 ≡ get_or l i 0
  drop_at_behind = get_or-drop n l (i - n) 0 ∙ ap (λ (j : ℕ). get_or l j 0) from_there

  pub drop_set_behind : (v : ℕ) → drop n (set l i v) ≡ set (drop n l) (i - n) v
  drop_set_behind v = ap (λ (j : ℕ). drop n (set l j v)) (sym from_there) ∙ drop-set-add n l (i - n) v

pub zeros_at : (n : ℕ) → Alike (replicate n 0) []
zeros_at zero i = refl
zeros_at (suc n) zero = refl
zeros_at (suc n) (suc i) = zeros_at n i

zeros_alike : (l : List ℕ) (n : ℕ) → Alike (l ++ replicate n 0) l
zeros_alike [] n i = zeros_at n i
zeros_alike (x ∷ xs) n zero = refl
zeros_alike (x ∷ xs) n (suc i) = zeros_alike xs n i

pub filled_length : (n : ℕ) (l : List ℕ) → length (filled n l) ≡ n
filled_length n l = simp (length-take, length-append, length-replicate) (omega arith)

pub filled_at : (n : ℕ) (l : List ℕ) (i : ℕ) → i < n → get_or (filled n l) i 0 ≡ get_or l i 0
filled_at n l i h = get_or-take n (l ++ replicate n 0) i 0 h ∙ zeros_alike l n i

-- a list that has room is not changed by it
pub alike_filled : (n : ℕ) (l : List ℕ) → length l ≤ n → Alike (filled n l) l
alike_filled n l h i = by (dec_lt i n)
  where
    by : Dec (i < n) → get_or (filled n l) i 0 ≡ get_or l i 0
    by (yes q) = filled_at n l i q
    by (no q) = get_or-eq_default (filled n l) 0 (omega (arith, filled_length n l)) ∙ sym (get_or-eq_default l 0 (omega arith))

pub filled_is : (n : ℕ) (l m : List ℕ) → length m ≡ n → ((i : ℕ) → i < n → get_or l i 0 ≡ get_or m i 0) → filled n l ≡ m
filled_is n l m e h =
    ext_get_or 0 (filled n l) m (filled_length n l ∙ sym e)
    (λ i q. let i<n : i < n = omega (arith, filled_length n l) in filled_at n l i i<n ∙ h i i<n)

pub filled_alike : (n : ℕ) (l m : List ℕ) → Alike l m → filled n l ≡ filled n m
filled_alike n l m a = filled_is n l (filled n m) (filled_length n m) (λ i h. a i ∙ sym (filled_at n m i h))

pub filled_full : (n : ℕ) (l : List ℕ) → length l ≡ n → filled n l ≡ l
filled_full n l e = filled_is n l l e (λ i h. refl)

-- what is copied into the front of a list is the front of the other
pub front_copied : (b l y : List ℕ) (n : ℕ) → n ≡ min (length l) (length b) → y ≡ take (length (take n b)) l → y ≡ take n l
front_copied b l y n en ey = ey ∙ ap (λ (m : ℕ). take m l) (length-take-le n b (omega arith))

-- what there is room for, and zeros behind it
module _ (b l y z : List ℕ) (n : ℕ) (en : n ≡ min (length l) (length b)) (ey : y ≡ take n l) where
  abbrev fronted : List ℕ
  fronted = y ++ drop n b

  front : length y ≡ n
  front = rw ey (length-take-le n l (omega arith))

  rest : length (drop n b) ≡ length b - n
  rest = length-drop n b

  left : length fronted - n ≡ length b - n
  left = omega (arith, length-append y (drop n b), front, rest)

  there : (i : ℕ) → i < length b → Dec (i < n) → get_or l i 0 ≡ get_or y i 0
  there i h (yes q) = sym (rw ey (get_or-take n l i 0 q))
  there i h (no q) = get_or-eq_default l 0 (omega arith) ∙ sym (get_or-eq_default y 0 (omega (arith, front)))

  zeros_behind : filled (length b) l ≡ y ++ replicate (length b - n) 0
  zeros_behind =
      filled_is (length b) l (y ++ replicate (length b - n) 0) (length-append y (replicate (length b - n) 0) ∙ simp length-replicate (omega (arith, front)))
      (λ i h. there i h (dec_lt i n) ∙ sym (zeros_alike y (length b - n) i))

  pub filled_behind : z ≡ replicate (length (take (length fronted - n) (drop n fronted))) 0
      → take n fronted ++ (z ++ drop (length fronted - n) (drop n fronted)) ≡ filled (length b) l
  filled_behind ez =
      let behind : drop n fronted ≡ drop n b = drop_at y (drop n b) n front in
      let over : length (drop n b) ≤ length b - n = omega (arith, rest) in
      let none : drop (length b - n) (drop n b) ≡ [] = drop_of_length-le (drop n b) over in
      let room : length (take (length b - n) (drop n b)) ≡ length b - n = ap length (take_all (length b - n) (drop n b) over) ∙ rest in
      let zeros : z ≡ replicate (length b - n) 0 = ez ∙ rw (left, behind, room) in
      rw (left, behind, none, take_at y (drop n b) n front, append-nil z, zeros) (sym zeros_behind)

pub filled_small : (n : ℕ) (l : List ℕ) → Small l → Small (filled n l)
filled_small n l s = small_take n (l ++ replicate n 0) (λ i. rw (zeros_alike l n i) (s i))

-- the first n, and then m more
pub filled_add : (n m : ℕ) (l : List ℕ) → filled n (take n l) ++ filled m (drop n l) ≡ filled (n + m) l
filled_add n m l = sym (filled_is (n + m) l (filled n (take n l) ++ filled m (drop n l)) long same)
  where
    long : length (filled n (take n l) ++ filled m (drop n l)) ≡ n + m
    long = length-append (filled n (take n l)) (filled m (drop n l)) ∙ rw (filled_length n (take n l), filled_length m (drop n l))

    by : (i : ℕ) → i < n + m → Dec (i < n) → get_or l i 0 ≡ get_or (filled n (take n l) ++ filled m (drop n l)) i 0
    by i h (yes a) =
        sym (get_or-append (filled n (take n l)) (filled m (drop n l)) 0 i (omega (arith, filled_length n (take n l)))
        ∙ filled_at n (take n l) i a ∙ get_or-take n l i 0 a)
    by i h (no a) =
        let e : i ≡ length (filled n (take n l)) + (i - n) = omega (arith, filled_length n (take n l)) in
        let r : get_or (filled n (take n l) ++ filled m (drop n l)) i 0 ≡ get_or (filled m (drop n l)) (i - n) 0 =
        ap (λ (j : ℕ). get_or (filled n (take n l) ++ filled m (drop n l)) j 0) e ∙ get_or-append-add (filled n (take n l)) (filled m (drop n l)) (i - n) 0
        in
        sym (r ∙ filled_at m (drop n l) (i - n) (omega arith) ∙ drop_at_behind n l i (omega arith))

    same : (i : ℕ) → i < n + m → get_or l i 0 ≡ get_or (filled n (take n l) ++ filled m (drop n l)) i 0
    same i h = by i h (dec_lt i n)

-- ZEROS
pub asked_each : (l : List ℕ) → list_all (λ (x : ℕ). eqb x 0) l ≡ all_zero l
unfolding all_zero
asked_each [] = refl
asked_each (x ∷ xs) = rw (asked_each xs)

zero_alike : (l : List ℕ) → all_zero l ≡ true → Alike l []
unfolding all_zero
zero_alike [] z i = refl
zero_alike (x ∷ xs) z zero = eqb-true _ _ ((and-eq-true_iff (eqb x 0) (all_zero xs)).0 z).0
zero_alike (x ∷ xs) z (suc i) = zero_alike xs ((and-eq-true_iff (eqb x 0) (all_zero xs)).0 z).1 i

alike_zero : (l : List ℕ) → Alike l [] → all_zero l ≡ true
unfolding all_zero
alike_zero [] a = refl
alike_zero (x ∷ xs) a = ap₂ ◌&&◌ (eq-eqb x 0 (a 0)) (alike_zero xs (λ i. a (suc i)))

-- zeros at the end may be cut off
pub cut_alike : (n : ℕ) (l : List ℕ) → all_zero (drop n l) ≡ true → Alike (take n l) l
cut_alike n l z i = by (dec_lt i n)
  where
    by : Dec (i < n) → get_or (take n l) i 0 ≡ get_or l i 0
    by (yes h) = get_or-take n l i 0 h
    by (no h) =
        get_or-eq_default (take n l) 0 (simp length-take (omega arith)) ∙ sym (sym (drop_at_behind n l i (omega arith)) ∙ zero_alike (drop n l) z (i - n))

-- what stands behind a list in its filling is zeros
pub behind_zero : (n : ℕ) (l : List ℕ) → all_zero (drop (length l) (filled n l)) ≡ true
behind_zero n l = alike_zero (drop (length l) (filled n l)) by
  where
    by : Alike (drop (length l) (filled n l)) []
    by i = get_or-drop (length l) (filled n l) i 0 ∙ at (dec_lt (length l + i) n)
      where
        at : Dec (length l + i < n) → get_or (filled n l) (length l + i) 0 ≡ 0
        at (yes h) = filled_at n l (length l + i) h ∙ get_or-eq_default l 0 (omega arith)
        at (no h) = get_or-eq_default (filled n l) 0 (omega (arith, filled_length n l))
