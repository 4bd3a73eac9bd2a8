-- The loop of a zoom-out: each turn divides the first of the pixels that are left, and those are still as they were. Assumes nothing.
use Prim.Native.Nat.{ℕ, ◌+◌, ◌≤◌, ◌<◌}
use mathlib.Core.Path.{◌≡◌, refl, sym, ap, ◌∙◌}
use mathlib.Core.List.{List, [], ◌++◌, append_assoc, append-nil}
use lib.Dec.{eqb}
use lib.ListN.{length, take, drop, get_or, set, length-set, drop_of_length-le}
use lib.Seq.{drop-cons, take-suc-set, drop-set-lt, drop-drop, get_or-drop, get_or-set_same, get_or-set_other, take_all}
use native.Mathlib.Omega.{arith}
use native.Mathlib.Numerals.{add-one}
use native.Mathlib.Decide.{ℕ_discrete}
use native.Mathlib.Nat.{add_assoc, zero-add, add-zero}
use borrow.Author.Tests.{eq-eqb, ne_eqb}
use Rattle.laws.specs.Steps.{Step, still, made}
use Rattle.rounding.specs.declared.Divided.{Divided}
use Rattle.rounding.specs.Draws.{rounded_div}
use Rattle.rounding.proofs.DivisionLaws.{draws_le}
use Rattle.cell.specs.Insertion.{front, divide_each}
use Rattle.cell_insertion.specs.Workers.{counted}
use Rattle.cell.proofs.DivideLaws.{quotient_small}

pub divided_bounds : (v c σ : ℕ) (r : Divided) → v ≤ 256 → 2 ≤ c → r ≡ rounded_div v c σ → (r.value < 256) × (r.draws ≤ 1)
divided_bounds v c σ r hv hc e = rw e (quotient_small v c σ hv hc, draws_le v c σ)

-- a step behind the bytes p, n draws after them
abbrev behind : List ℕ → ℕ → Step → Step
behind p n s = made (p ++ s.bytes) s.state (n + s.draws) s.lost

-- where the loop is: before i stand the quotients, from i on the pixels as they were
pub record Dividing (c slot : ℕ) (px₀ : List ℕ) (σ : ℕ) (px : List ℕ) (s n i : ℕ) : Type 0 where
  pub done : divide_each c (set px₀ slot 256) σ ≡ behind (take i px) n (divide_each c (drop i (set px₀ slot 256)) s)
  pub rest : drop i px ≡ drop i px₀
  pub same : length px ≡ length px₀
  pub few : n ≤ i

counted_at : (l : List ℕ) (slot i : ℕ) → i < length l → get_or (set l slot 256) i 0 ≡ counted (eqb i slot) (get_or l i 0)
counted_at l slot i h = by (ℕ_discrete i slot)
  where
    by : Dec (i ≡ slot) → get_or (set l slot 256) i 0 ≡ counted (eqb i slot) (get_or l i 0)
    by (yes e) = rw (eq-eqb i slot e, ← e) (get_or-set_same l i 256 0 h)
    by (no n) = rw (ne_eqb i slot n) (get_or-set_other l slot i 256 0 n)

divide_first : (c : ℕ) (l : List ℕ) (σ i : ℕ) → i < length l
    → divide_each c (drop i l) σ ≡ front (rounded_div (get_or l i 0) c σ) (divide_each c (drop (i + 1) l) (rounded_div (get_or l i 0) c σ).state)
unfolding divide_each
divide_first c l σ i h = rw (add-one i, drop-cons l i 0 h) refl

divide_none : (c : ℕ) (l : List ℕ) (σ i : ℕ) → length l ≤ i → divide_each c (drop i l) σ ≡ still [] σ
unfolding divide_each
divide_none c l σ i h = rw (drop_of_length-le l h) refl

module _ (c slot : ℕ) (px₀ : List ℕ) (σ : ℕ) where
  pub dividing_begin : Dividing c slot px₀ σ px₀ σ 0 0
  dividing_begin = record { done = simp zero-add; rest = refl; same = refl; few = omega arith }

  module _ (px : List ℕ) (s n i : ℕ) (w : Dividing c slot px₀ σ px s n i) where
    left : i < length px → get_or (set px₀ slot 256) i 0 ≡ counted (eqb i slot) (get_or px i 0)
    left h =
        let a : get_or px i 0 ≡ get_or px₀ i 0 = rw (add-zero i) at (sym (get_or-drop i px 0 0) ∙ ap (λ (l : List ℕ). get_or l 0 0) w.rest ∙ get_or-drop i px₀ 0 0) in
        counted_at px₀ slot i (rw w.same at h) ∙ rw a refl

    pub dividing_on : (d : Divided) → i < length px → d ≡ rounded_div (counted (eqb i slot) (get_or px i 0)) c s → d.draws ≤ 1
        → Dividing c slot px₀ σ (set px i d.value) d.state (n + d.draws) (i + 1)
    dividing_on d h e few =
        let inside : i < length (set px₀ slot 256) = rw (length-set px₀ slot 256, ← w.same) h in
        let next : i < i + 1 = omega arith in
        record {
          done =
              w.done
              ∙ rw (divide_first c (set px₀ slot 256) s i inside, left h, ← e, add-one i, take-suc-set px i d.value h) (simp (append_assoc, add_assoc));
          rest = drop-set-lt (i + 1) px i d.value next ∙ sym (drop-drop 1 i px) ∙ ap (λ (l : List ℕ). drop 1 l) w.rest ∙ drop-drop 1 i px₀;
          same = length-set px i d.value ∙ w.same;
          few = omega (arith, w.few);
        }

    pub dividing_end : length px₀ ≤ i → made px s n 0 ≡ divide_each c (set px₀ slot 256) σ
    dividing_end h =
        let over : length (set px₀ slot 256) ≤ i = rw (length-set px₀ slot 256) h in
        let all : length px ≤ i = rw w.same h in
        sym (w.done ∙ rw (divide_none c (set px₀ slot 256) s i over, take_all i px all) (simp (append-nil, add-zero)))
