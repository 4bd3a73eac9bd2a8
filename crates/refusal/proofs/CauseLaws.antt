-- Of causes that stand in the table's order the first that holds has the lowest number: what holds behind it stands behind it. Assumes nothing.
use Prim.Native.Nat.{ℕ, ◌≤◌}
use mathlib.Core.Path.{◌≡◌, refl, sym, ap, ◌∙◌}
use mathlib.Core.Bool.{Bool, true, false, cond, ◌&&◌, ◌||◌, true≢false}
use mathlib.Core.List.{List, [], ◌∷◌, ◌++◌}
use native.Mathlib.Nat.{le_refl, le_trans}
use lib.Dec.{leb, ltb, eqb}
use lib.ListN.{length}
use borrow.Author.Tests.{leb-true, eqb-true, eq-eqb}
use Rattle.refusal.specs.declared.Verdict.{Verdict}
use Rattle.refusal.specs.declared.Verdict.TheVariants.{Accepted}
use Rattle.refusal.specs.Refusals.{is_accepted, number_of, when_accepted}
use Rattle.refusal.specs.Causes.{Cause, cause, unsound, told, holds, first_of, applies, numbers_of, table, place_in, rank_of, ranked_from}
use Rattle.refusal.specs.Causes.{Told, ToldInLoadOrder, Lowest, FirstHolding, First}
use Rattle.refusal.proofs.VerdictLaws.{accepted_is, refused_leaves}

-- a cause turns a call back
pub told_refuses : (x : Cause) → is_accepted (told x) ≡ false
told_refuses (cause k h) = refl
told_refuses (unsound j h) = refl

and_false : (a : Bool) → a && false ≡ false
and_false true = refl
and_false false = refl

-- THE TABLE goes by the numbers of document 01, which gives the lowest
pub by_number : ranked_from 0 (1 ∷ 2 ∷ 3 ∷ 4 ∷ 5 ∷ 6 ∷ 7 ∷ 8 ∷ 9 ∷ 10 ∷ 11 ∷ 12 ∷ 13 ∷ 14 ∷ 15 ∷ 16 ∷ 17 ∷ 18 ∷ []) ≡ true
unfolding ranked_from place_in
by_number = refl

-- and document 02's stand where it puts them
pub by_place : ranked_from 0 (7 ∷ 19 ∷ 20 ∷ 14 ∷ []) ≡ true
unfolding ranked_from place_in
by_place = refl

-- ONE CAUSE, and those behind it
module _ (x : Cause) (xs : List Cause) where
  pub first_holds : holds x ≡ true → first_of (x ∷ xs) ≡ told x
  unfolding first_of
  first_holds e = rw e refl

  pub first_fails : holds x ≡ false → first_of (x ∷ xs) ≡ first_of xs
  unfolding first_of
  first_fails e = rw e refl

  applies_here : holds x ≡ true → applies (number_of (told x)) (x ∷ xs) ≡ true
  unfolding applies
  applies_here e = rw (e, eq-eqb (number_of (told x)) (number_of (told x)) refl) refl

  applies_later : (k : ℕ) → holds x ≡ false → applies k (x ∷ xs) ≡ applies k xs
  unfolding applies
  applies_later k e = rw (e, and_false (eqb (number_of (told x)) k)) refl

  -- a number that applies is the first cause's or applies among the others
  pub applies_where : (k : ℕ) → applies k (x ∷ xs) ≡ true → (P : Type 0) → (number_of (told x) ≡ k → P) → (applies k xs ≡ true → P) → P
  unfolding applies
  applies_where k e P here later = by (eqb (number_of (told x)) k) refl (holds x) e
    where
      by : (a : Bool) → eqb (number_of (told x)) k ≡ a → (h : Bool) → (a && h) || applies k xs ≡ true → P
      by true q h e = here (eqb-true _ _ q)
      by false q h e = later e

-- CAUSES, and then others
pub first_append : (xs ys : List Cause) → first_of (xs ++ ys) ≡ when_accepted (first_of xs) (first_of ys) (first_of xs)
unfolding first_of
first_append [] ys = refl
first_append (x ∷ xs) ys = by (holds x) (told x) (told_refuses x) (first_append xs ys)
  where
    by : (h : Bool) (v : Verdict) → is_accepted v ≡ false → first_of (xs ++ ys) ≡ when_accepted (first_of xs) (first_of ys) (first_of xs)
        → cond h v (first_of (xs ++ ys)) ≡ when_accepted (cond h v (first_of xs)) (first_of ys) (cond h v (first_of xs))
    by true v n e = sym (refused_leaves v (first_of ys) v n)
    by false v n e = e

-- THE NUMBER GIVEN applies
pub told_applies : (xs : List Cause) → is_accepted (first_of xs) ≡ false → applies (number_of (first_of xs)) xs ≡ true
unfolding first_of
told_applies [] e = absurd (true≢false e)
told_applies (x ∷ xs) e = by (holds x) refl (told_applies xs)
  where
    by : (h : Bool) → holds x ≡ h → (is_accepted (first_of xs) ≡ false → applies (number_of (first_of xs)) xs ≡ true)
        → applies (number_of (first_of (x ∷ xs))) (x ∷ xs) ≡ true
    by true q later = rw (first_holds x xs q) (applies_here x xs q)
    by false q later = rw (first_fails x xs q, applies_later x xs (number_of (first_of xs)) q) (later (rw (first_fails x xs q) at e))

-- A CALL TO WHICH A NUMBER APPLIES is refused
pub applies_refuses : (xs : List Cause) (k : ℕ) → applies k xs ≡ true → is_accepted (first_of xs) ≡ false
unfolding applies
applies_refuses [] k e = absurd (true≢false (sym e))
applies_refuses (x ∷ xs) k e = by (holds x) refl (applies_refuses xs k)
  where
    by : (h : Bool) → holds x ≡ h → (applies k xs ≡ true → is_accepted (first_of xs) ≡ false) → is_accepted (first_of (x ∷ xs)) ≡ false
    by true q later = rw (first_holds x xs q) (told_refuses x)
    by false q later = rw (first_fails x xs q) (later (sym (applies_later x xs k q) ∙ e))

-- a rank, and the numbers behind it
pub ranked_parts : (r n : ℕ) (ns : List ℕ) → ranked_from r (n ∷ ns) ≡ true → (r ≤ rank_of n) × (ranked_from (rank_of n) ns ≡ true)
unfolding ranked_from
ranked_parts r n ns o =
    let parts = and_parts (leb r (rank_of n)) (ltb (rank_of n) (length table)) (ranked_from (rank_of n) ns) o in
    (leb-true r (rank_of n) parts.0, parts.1)
  where
    and_parts : (a b c : Bool) → a && b && c ≡ true → (a ≡ true) × (c ≡ true)
    and_parts true true c e = (refl, e)
    and_parts true false c e = absurd (true≢false (sym e))
    and_parts false b c e = absurd (true≢false (sym e))

-- what applies among numbers that are ranked from r on has that rank or a later one
applies_from : (xs : List Cause) (r k : ℕ) → ranked_from r (numbers_of xs) ≡ true → applies k xs ≡ true → r ≤ rank_of k
unfolding numbers_of applies
applies_from [] r k o e = absurd (true≢false (sym e))
applies_from (x ∷ xs) r k o e =
    let n = number_of (told x) in
    let ranks = ranked_parts r n (numbers_of xs) o in
    applies_where x xs k e (r ≤ rank_of k) (λ same. rw (← same) ranks.0)
    (λ later. le_trans ranks.0 (applies_from xs (rank_of n) k ranks.1 later))

-- THE LOWEST: of causes in the table's order none that holds ranks before the one that is told
pub lowest : (xs : List Cause) (r k : ℕ) → ranked_from r (numbers_of xs) ≡ true → applies k xs ≡ true → rank_of (number_of (first_of xs)) ≤ rank_of k
unfolding numbers_of applies
lowest [] r k o e = absurd (true≢false (sym e))
lowest (x ∷ xs) r k o e = by (ranked_parts r (number_of (told x)) (numbers_of xs) o).1 (holds x) refl (lowest xs (rank_of (number_of (told x))) k)
  where
    by : ranked_from (rank_of (number_of (told x))) (numbers_of xs) ≡ true → (h : Bool) → holds x ≡ h
        → (ranked_from (rank_of (number_of (told x))) (numbers_of xs) ≡ true → applies k xs ≡ true → rank_of (number_of (first_of xs)) ≤ rank_of k)
        → rank_of (number_of (first_of (x ∷ xs))) ≤ rank_of k
    by rest true q later =
        let n = number_of (told x) in
        rw (first_holds x xs q)
        (applies_where x xs k e (rank_of n ≤ rank_of k) (λ same. rw same (le_refl (rank_of k))) (λ behind. applies_from xs (rank_of n) k rest behind))
    by rest false q later = rw (first_fails x xs q) (later rest (sym (applies_later x xs k q) ∙ e))

-- NONE APPLIES where a call is accepted
pub none_applies : (xs : List Cause) → first_of xs ≡ Accepted → (k : ℕ) → applies k xs ≡ false
none_applies xs e k = by (applies k xs) refl
  where
    by : (a : Bool) → applies k xs ≡ a → a ≡ false
    by true q = absurd (true≢false (sym (ap is_accepted e) ∙ applies_refuses xs k q))
    by false q = refl

-- and it is accepted where none does
pub accepts : (xs : List Cause) → ((k : ℕ) → applies k xs ≡ false) → first_of xs ≡ Accepted
accepts xs none = by (is_accepted (first_of xs)) refl
  where
    by : (a : Bool) → is_accepted (first_of xs) ≡ a → first_of xs ≡ Accepted
    by true q = accepted_is (first_of xs) q
    by false q = absurd (true≢false (sym (told_applies xs q) ∙ none (number_of (first_of xs))))

-- A CALL of which it is claimed
pub lowest_told : (v : Verdict) (ns : List ℕ) (xs : List Cause) → Told v ns xs → Lowest v xs
lowest_told v ns xs t =
    rw t.is
    (record {
      told_applies = told_applies xs;
      refuses = applies_refuses xs;
      lowest = λ k e. lowest xs 0 k (rw t.numbered t.ordered) e;
      none_applies = none_applies xs;
      accepts = accepts xs;
    })

-- THE FIRST THAT HOLDS, in any order
pub first_holding : (xs : List Cause) → is_accepted (first_of xs) ≡ false → FirstHolding (first_of xs) xs
unfolding first_of
first_holding [] e = absurd (true≢false e)
first_holding (x ∷ xs) e = by (holds x) refl (first_holding xs)
  where
    by : (h : Bool) → holds x ≡ h → (is_accepted (first_of xs) ≡ false → FirstHolding (first_of xs) xs) → FirstHolding (first_of (x ∷ xs)) (x ∷ xs)
    by true q later = record { before = []; this = x; behind = xs; split = refl; none_before = refl; this_holds = q; this_told = first_holds x xs q }
    by false q later =
        let it = later (rw (first_fails x xs q) at e) in
        record {
          before = x ∷ it.before;
          this = it.this;
          behind = it.behind;
          split = ap (λ ys. x ∷ ys) it.split;
          none_before = first_fails x it.before q ∙ it.none_before;
          this_holds = it.this_holds;
          this_told = first_fails x xs q ∙ it.this_told;
        }

-- A LOAD of which it is claimed
pub first_told : (v : Verdict) (xs : List Cause) → ToldInLoadOrder v xs → First v xs
first_told v xs t = rw t.is (record { first = first_holding xs; none_applies = none_applies xs; accepts = accepts xs })
