-- 14 is told by a cause of that number alone, so none before it holds; and of the numbers that apply one alone stands first in the table. Assumes
-- nothing.
use Prim.Native.Nat.{ℕ, suc, ◌<◌}
use mathlib.Core.Path.{◌≡◌, refl, sym, ap, ◌∙◌}
use mathlib.Core.Bool.{Bool, true, false, not, cond, ◌&&◌, true≢false}
use mathlib.Core.List.{List, [], ◌∷◌, ◌++◌}
use native.Mathlib.Omega.{arith}
use lib.Dec.{leb, ltb, eqb}
use lib.ListN.{length}
use borrow.Author.Tests.{ltb-true, eqb-true, eq-eqb}
use Rattle.refusal.specs.declared.Verdict.{Verdict}
use Rattle.refusal.specs.declared.Verdict.TheVariants.{Accepted, Unsound}
use Rattle.refusal.specs.Refusals.{number_of, index_of, is_accepted}
use Rattle.refusal.specs.Causes.{Cause, unsound, told, holds, first_of, applies, numbers_of, table, place_in, rank_of, ranked_from, Lowest, First}
use Rattle.refusal.specs.Named.{TwoCores}
use Rattle.refusal.proofs.VerdictLaws.{accepted_is, refused_never, refused_leaves}
use Rattle.refusal.proofs.GateLaws.{both_accepted}
use Rattle.refusal.proofs.CauseLaws.{first_holds, first_fails, first_append, applies_where, ranked_parts, accepts}

-- NO CAUSE of this number
unfoldable pub none_is : ℕ → List Cause → Bool
none_is n [] = true
none_is n (x ∷ xs) = not (eqb (number_of (told x)) n) && none_is n xs

-- so none of them is told by it
none_told : (n : ℕ) (xs : List Cause) → none_is n xs ≡ true → number_of (first_of xs) ≡ n → first_of xs ≡ Accepted
unfolding none_is first_of
none_told n [] o e = refl
none_told n (x ∷ xs) o e = by (holds x) (eqb (number_of (told x)) n) refl o e (none_told n xs)
  where
    by : (h q : Bool) → eqb (number_of (told x)) n ≡ q → not q && none_is n xs ≡ true → number_of (cond h (told x) (first_of xs)) ≡ n
        → (none_is n xs ≡ true → number_of (first_of xs) ≡ n → first_of xs ≡ Accepted) → cond h (told x) (first_of xs) ≡ Accepted
    by h true is o e later = absurd (true≢false (sym o))
    by true false is o e later = absurd (true≢false (sym (eq-eqb _ _ e) ∙ is))
    by false false is o e later = later o e

-- WHERE A NUMBER IS TOLD that none of the first causes has, none of these holds
pub told_behind : (n : ℕ) (xs ys : List Cause) → none_is n xs ≡ true → number_of (first_of (xs ++ ys)) ≡ n
    → (first_of xs ≡ Accepted) × (first_of (xs ++ ys) ≡ first_of ys)
told_behind n xs ys o e = by (is_accepted (first_of xs)) refl
  where
    by : (a : Bool) → is_accepted (first_of xs) ≡ a → (first_of xs ≡ Accepted) × (first_of (xs ++ ys) ≡ first_of ys)
    by true q = (accepted_is (first_of xs) q, first_append xs ys ∙ rw (accepted_is (first_of xs) q) refl)
    by false q =
        let left = first_append xs ys ∙ refused_leaves (first_of xs) (first_of ys) (first_of xs) q in
        absurd (true≢false (sym (ap is_accepted (none_told n xs o (ap number_of (sym left) ∙ e))) ∙ q))

-- 14, of cells behind causes that are not 14: it holds, none before it does, and the index is its own
pub unsound_told : (xs : List Cause) (j : ℕ) (h : Bool) (ys : List Cause) → none_is 14 xs ≡ true → none_is 14 ys ≡ true
    → number_of (first_of (xs ++ unsound j h ∷ ys)) ≡ 14
    → (first_of xs ≡ Accepted) × (h ≡ true) × (index_of (first_of (xs ++ unsound j h ∷ ys)) ≡ j)
unsound_told xs j h ys before behind e =
    let past = told_behind 14 xs (unsound j h ∷ ys) before e in
    let it = here h refl (sym (ap number_of past.1) ∙ e) in
    (past.0, it.0, ap index_of past.1 ∙ it.1)
  where
    here : (q : Bool) → h ≡ q → number_of (first_of (unsound j h ∷ ys)) ≡ 14 → (h ≡ true) × (index_of (first_of (unsound j h ∷ ys)) ≡ j)
    here true q e = (q, ap index_of (first_holds (unsound j h) ys q))
    here false q e =
        let rest = first_fails (unsound j h) ys q in
        let none = none_told 14 ys behind (sym (ap number_of rest) ∙ e) in
        let z : ◌≡◌ {A = ℕ} 0 14 = sym (ap number_of (rest ∙ none)) ∙ e in
        absurd (omega arith)

-- WHERE ALL IS ACCEPTED it does not hold, nor does one before it
pub unsound_denied : (xs : List Cause) (j : ℕ) (h : Bool) (ys : List Cause) → first_of (xs ++ unsound j h ∷ ys) ≡ Accepted → (first_of xs ≡ Accepted) × (h ≡ false)
unsound_denied xs j h ys e =
    let parts = both_accepted (first_of xs) (first_of (unsound j h ∷ ys)) (sym (first_append xs (unsound j h ∷ ys)) ∙ e) in
    (parts.0, by h refl parts.1)
  where
    by : (q : Bool) → h ≡ q → first_of (unsound j h ∷ ys) ≡ Accepted → h ≡ false
    by true q e = absurd (refused_never (Unsound j) refl (sym (first_holds (unsound j h) ys q) ∙ e))
    by false q e = q

-- A NUMBER is found at one place of an order
place_of_one : (xs : List ℕ) (a b : ℕ) → place_in xs a < length xs → place_in xs a ≡ place_in xs b → a ≡ b
unfolding place_in
place_of_one [] a b l e = absurd (omega arith)
place_of_one (x ∷ xs) a b l e = by (eqb x a) refl (eqb x b) refl l e (place_of_one xs a b)
  where
    by : (p : Bool) → eqb x a ≡ p → (q : Bool) → eqb x b ≡ q → cond p 0 (suc (place_in xs a)) < suc (length xs)
        → cond p 0 (suc (place_in xs a)) ≡ cond q 0 (suc (place_in xs b)) → (place_in xs a < length xs → place_in xs a ≡ place_in xs b → a ≡ b) → a ≡ b
    by true p true q l e later = sym (eqb-true x a p) ∙ eqb-true x b q
    by true p false q l e later = absurd (omega (arith, e))
    by false p true q l e later = absurd (omega (arith, e))
    by false p false q l e later = later (omega (arith, l)) (omega (arith, e))

-- a number that is ranked is one of the table
in_table : (r n : ℕ) (ns : List ℕ) → ranked_from r (n ∷ ns) ≡ true → rank_of n < length table
unfolding ranked_from
in_table r n ns o = ltb-true _ _ (middle (leb r (rank_of n)) (ltb (rank_of n) (length table)) (ranked_from (rank_of n) ns) o)
  where
    middle : (a b c : Bool) → a && b && c ≡ true → b ≡ true
    middle true true c e = refl
    middle true false c e = absurd (true≢false (sym e))
    middle false b c e = absurd (true≢false (sym e))

-- what applies among numbers of the table is one of them
applies_in_table : (xs : List Cause) (r k : ℕ) → ranked_from r (numbers_of xs) ≡ true → applies k xs ≡ true → rank_of k < length table
unfolding numbers_of applies
applies_in_table [] r k o e = absurd (true≢false (sym e))
applies_in_table (x ∷ xs) r k o e =
    let n = number_of (told x) in
    applies_where x xs k e (rank_of k < length table) (λ same. rw (← same) (in_table r n (numbers_of xs) o))
    (λ later. applies_in_table xs (rank_of n) k (ranked_parts r n (numbers_of xs) o).1 later)

-- TWO VERDICTS that are each the lowest have one number
module _ (xs : List Cause) (o : ranked_from 0 (numbers_of xs) ≡ true) (v v' : Verdict) (l : Lowest v xs) (l' : Lowest v' xs) where
  same_number : number_of v ≡ number_of v'
  same_number = by (is_accepted v) refl (is_accepted v') refl
    where
      by : (a : Bool) → is_accepted v ≡ a → (b : Bool) → is_accepted v' ≡ b → number_of v ≡ number_of v'
      by true q true q' = ap number_of (accepted_is v q ∙ sym (accepted_is v' q'))
      by true q false q' = absurd (true≢false (sym q ∙ l.refuses (number_of v') (l'.told_applies q')))
      by false q true q' = absurd (true≢false (sym q' ∙ l'.refuses (number_of v) (l.told_applies q)))
      by false q false q' =
          let a = l.told_applies q in
          let b = l'.told_applies q' in
          place_of_one table (number_of v) (number_of v') (applies_in_table xs 0 (number_of v) o a)
          (omega (arith, l.lowest (number_of v') b, l'.lowest (number_of v) a))

-- OF A LOAD the first that holds is one
first_same : (xs : List Cause) (v : Verdict) → First v xs → v ≡ first_of xs
first_same xs v f = by (is_accepted v) refl
  where
    by : (a : Bool) → is_accepted v ≡ a → v ≡ first_of xs
    by true q = accepted_is v q ∙ sym (accepts xs (f.none_applies (accepted_is v q)))
    by false q =
        let it = f.first q in
        it.this_told
        ∙ sym (rw it.split (first_append it.before (it.this ∷ it.behind) ∙ rw it.none_before (first_holds it.this it.behind it.this_holds)))

pub two_cores : TwoCores
two_cores = record {
  same = λ xs Promised o one v v' k k'.
      let number = same_number xs o v v' k.lowest k'.lowest in
      record { number = number; index = λ e. one (index_of v) (index_of v') (k.names e) (k'.names (sym number ∙ e)) };
  same_load = λ xs v v' f f'. first_same xs v f ∙ sym (first_same xs v' f');
}
