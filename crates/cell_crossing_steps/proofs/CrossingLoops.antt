-- The loops of a crossing: each says that the definition of all at entry is that of the rest from here, so that a turn
-- is one clause of it. Assumes nothing.
use Prim.Native.Nat.{ℕ, suc, ◌+◌, ◌-◌, ◌*◌, ◌%◌, ◌^◌, ◌≤◌, ◌<◌}
use mathlib.Core.Path.{◌≡◌, refl, sym, ap, ◌∙◌}
use mathlib.Core.Bool.{true}
use mathlib.Core.List.{List, ◌++◌, append_assoc, append-nil}
use lib.ListN.{length, take, drop, get_or, set, length-set, drop_of_length-le}
use lib.Seq.{drop-cons, take-suc-set, drop-set-lt, take_all}
use native.Mathlib.Nat.{add-zero, sub-zero, mod-add-mod}
use native.Mathlib.Numerals.{add-one}
use native.Mathlib.Omega.{arith}
use Rattle.cell.specs.Cell.{pixels_of, slot_of}
use Rattle.cell.specs.Crossing.{clear_of, ceiling_of, all_at_most, times_each}
use Rattle.cell.proofs.AtMostLaws.{most_cons, ceiling_fits}

-- TIMES c, each
pub record Timing (c : ℕ) (l₀ l : List ℕ) (i : ℕ) : Type 0 where
  pub done : times_each c l₀ ≡ take i l ++ times_each c (drop i l)
  pub low : all_at_most (ceiling_of c) (drop i l) ≡ true
  pub same : length l ≡ length l₀

module _ (c : ℕ) (l₀ : List ℕ) where
  pub timing_begin : all_at_most (ceiling_of c) l₀ ≡ true → Timing c l₀ l₀ 0
  timing_begin s = record { done = refl; low = s; same = refl }

  pub timing_end : (l : List ℕ) (i : ℕ) → length l₀ ≤ i → Timing c l₀ l i → l ≡ times_each c l₀
  unfolding times_each
  timing_end l i h w =
      let all : length l ≤ i = rw w.same h in
      sym (w.done ∙ rw (drop_of_length-le l all, take_all i l all) (append-nil l))

  module _ (l : List ℕ) (i x : ℕ) (h : i < length l) (e : x ≡ get_or l i 0) (w : Timing c l₀ l i) where
    low_here : (x ≤ ceiling_of c) × (all_at_most (ceiling_of c) (drop (suc i) l) ≡ true)
    low_here = most_cons (ceiling_of c) x (drop (suc i) l) (rw e (rw (drop-cons l i 0 h) at w.low))

    timing_fits : x * c ≤ 255
    timing_fits = ceiling_fits c x low_here.0

    pub timing_32 : x * c < 2 ^ 32
    timing_32 = omega (arith, timing_fits)

    pub timing_8 : x * c < 2 ^ 8
    timing_8 = omega (arith, timing_fits)

    pub timing_on : Timing c l₀ (set l i (x * c)) (i + 1)
    unfolding times_each
    timing_on =
        let s : i < suc i = omega arith in
        record {
          done = w.done ∙ rw (drop-cons l i 0 h, e) (simp (add-one, take-suc-set, drop-set-lt, append_assoc));
          low = simp (add-one, drop-set-lt) low_here.1;
          same = length-set l i (x * c) ∙ w.same;
        }

-- THE RING: the pixel behind another is that of the next sub-window
next_slot_is : (t x slot next : ℕ) → slot ≡ slot_of t x → next ≡ (slot + 1) % pixels_of t → next ≡ slot_of t (x + 1)
next_slot_is t x slot next e en = en ∙ rw e (mod-add-mod x (pixels_of t) 1)

-- CLEAR: so many sub-windows are cleared, and the pixel of the last one that was is known
pub record Clearing (t : ℕ) (b₀ : List ℕ) (ended count : ℕ) (b : List ℕ) (slot cleared : ℕ) : Type 0 where
  pub done : clear_of t count (ended + 1) b₀ ≡ clear_of t (count - cleared) (ended + cleared + 1) b
  pub same : length b ≡ length b₀
  pub place : slot ≡ slot_of t (ended + cleared)

clear_more : (t k first : ℕ) (b : List ℕ) → clear_of t (suc k) first b ≡ clear_of t k (first + 1) (set b (slot_of t first) 0)
unfolding clear_of
clear_more t k first b = refl

-- a crossing by one clears the pixel behind that of the sub-window that ends
module _ (t ended slot : ℕ) (e : slot ≡ slot_of t ended) where
  pub clear_one : (b : List ℕ) (count begun : ℕ) → begun ≡ (slot + 1) % pixels_of t → count ≡ 1 → set b begun 0 ≡ clear_of t count (ended + 1) b
  unfolding clear_of
  clear_one b count begun en one = rw (one, next_slot_is t ended slot begun e en) refl

module _ (t : ℕ) (b₀ : List ℕ) (ended count : ℕ) where
  pub clearing_begin : (slot : ℕ) → slot ≡ slot_of t ended → Clearing t b₀ ended count b₀ slot 0
  clearing_begin slot e = record { done = rw (sub-zero count, add-zero ended) refl; same = refl; place = rw (add-zero ended) e }

  module _ (b : List ℕ) (slot cleared : ℕ) (w : Clearing t b₀ ended count b slot cleared) where
    pub clearing_end : count ≤ cleared → b ≡ clear_of t count (ended + 1) b₀
    unfolding clear_of
    clearing_end h =
        let e : count - cleared ≡ 0 = omega arith in
        sym (w.done ∙ rw e refl)

    pub clearing_on : (next : ℕ) → next ≡ (slot + 1) % pixels_of t → cleared < count → Clearing t b₀ ended count (set b next 0) next (cleared + 1)
    clearing_on next en h =
        let s : count - cleared ≡ suc (count - (cleared + 1)) = omega arith in
        let x : ended + (cleared + 1) ≡ ended + cleared + 1 = omega arith in
        let q : next ≡ slot_of t (ended + cleared + 1) = next_slot_is t (ended + cleared) slot next w.place en in
        let more = ap (λ (m : ℕ). clear_of t m (ended + cleared + 1) b) s ∙ clear_more t (count - (cleared + 1)) (ended + cleared + 1) b in
        record { done = w.done ∙ more ∙ rw (x, q) refl; same = length-set b next 0 ∙ w.same; place = rw x q }
