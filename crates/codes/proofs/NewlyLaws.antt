-- One code more is listed behind those before it and is above them all: so the list rises, and has each code once. Assumes nothing.
use Prim.Native.Nat.{ℕ, zero, suc, ◌≤◌, ◌<◌}
use mathlib.Core.Path.{◌≡◌, refl, sym, ◌∙◌}
use mathlib.Core.Bool.{Bool, true, false, not, cond, ◌&&◌, ◌||◌}
use mathlib.Core.List.{List, [], ◌∷◌, ◌++◌}
use native.Mathlib.Omega.{arith}
use native.Mathlib.Decide.{ℕ_discrete, dec_lt}
use lib.Dec.{ltb, eqb}
use lib.ListN.{length, get_or, length-append, get_or-append}
use lib.Seq.{get_or_at}
use borrow.Author.Tests.{lt-ltb, le-ltb, eq-eqb, ne_eqb}
use Rattle.codes.specs.Codes.{newly, is_in}
use Rattle.codes.proofs.InLaws.{in_append}

-- ONE MORE behind a list, if it is asked for
abbrev one_if : Bool → ℕ → List ℕ
one_if b x = cond b (x ∷ []) []

one_few : (b : Bool) (x : ℕ) → length (one_if b x) ≤ 1
one_few true x = omega arith
one_few false x = omega arith

one_in : (b : Bool) (x i : ℕ) → is_in i (one_if b x) ≡ (b && eqb x i)
unfolding is_in
one_in true x i = by (eqb x i)
  where
    by : (a : Bool) → (a || false) ≡ a
    by true = refl
    by false = refl
one_in false x i = refl

-- a place lies in the list, or holds the one
one_where : (xs : List ℕ) (b : Bool) (x a : ℕ) → a < length (xs ++ one_if b x)
    → (P : Type 0) → (a < length xs → P) → (a ≡ length xs → get_or (xs ++ one_if b x) a 0 ≡ x → P) → P
one_where xs false x a h P here last = here (omega (arith, length-append xs []))
one_where xs true x a h P here last = by (dec_lt a (length xs))
  where
    by : Dec (a < length xs) → P
    by (yes l) = here l
    by (no l) =
        let e : a ≡ length xs = omega (arith, length-append xs (x ∷ [])) in
        last e (get_or_at xs x [] 0 a (sym e))

module _ (now before : ℕ → Bool) where
  -- reached now, and not before
  abbrev fresh : ℕ → Bool
  fresh i = now i && not (before i)

  -- NO MORE than there are codes
  pub newly_few : (n : ℕ) → length (newly now before n) ≤ n
  unfolding newly
  newly_few zero = omega arith
  newly_few (suc n) = simp length-append (omega (arith, newly_few n, one_few (fresh n) n))

  -- EXACTLY THESE
  one_later : (n i : ℕ) → ((ltb i n && fresh i) || (fresh n && eqb n i)) ≡ (ltb i (suc n) && fresh i)
  one_later n i = by (ℕ_discrete i n)
    where
      same : (b : Bool) → (b && true) ≡ b
      same true = refl
      same false = refl

      other : (a b : Bool) → (a || (b && false)) ≡ a
      other true b = refl
      other false true = refl
      other false false = refl

      apart : (i ≡ n → ⊥) → Dec (i < n) → ltb i n ≡ ltb i (suc n)
      apart ne (yes l) = lt-ltb i n l ∙ sym (lt-ltb i (suc n) (omega arith))
      apart ne (no l) = le-ltb i n (omega arith) ∙ sym (le-ltb i (suc n) (omega arith))

      by : Dec (i ≡ n) → ((ltb i n && fresh i) || (fresh n && eqb n i)) ≡ (ltb i (suc n) && fresh i)
      by (yes e) = rw (e, le-ltb n n (omega arith), lt-ltb n (suc n) (omega arith), eq-eqb n n refl) (same (fresh n))
      by (no ne) = rw (ne_eqb n i (λ e. ne (sym e)), apart ne (dec_lt i n)) (other (ltb i (suc n) && fresh i) (fresh n))

  pub newly_in : (n i : ℕ) → is_in i (newly now before n) ≡ (ltb i n && fresh i)
  unfolding newly is_in
  newly_in zero i = rw (le-ltb i 0 (omega arith)) refl
  newly_in (suc n) i = in_append i (newly now before n) (one_if (fresh n) n) ∙ rw (newly_in n i, one_in (fresh n) n i) (one_later n i)

  -- each is below the number of codes
  newly_below : (n a : ℕ) → a < length (newly now before n) → get_or (newly now before n) a 0 < n
  unfolding newly
  newly_below zero a h = absurd (omega arith)
  newly_below (suc n) a h =
      one_where (newly now before n) (fresh n) n a h (get_or (newly now before (suc n)) a 0 < suc n)
      (λ l. rw (get_or-append (newly now before n) (one_if (fresh n) n) 0 a l) (omega (arith, newly_below n a l)))
      (λ e q. omega arith)

  -- ONE TIME EACH, IN ASCENDING INDEX
  pub newly_ascending : (n a b : ℕ) → a < b → b < length (newly now before n) → get_or (newly now before n) a 0 < get_or (newly now before n) b 0
  unfolding newly
  newly_ascending zero a b h l = absurd (omega arith)
  newly_ascending (suc n) a b h l =
      one_where (newly now before n) (fresh n) n b l (get_or (newly now before (suc n)) a 0 < get_or (newly now before (suc n)) b 0)
      (λ q.
      rw (get_or-append (newly now before n) (one_if (fresh n) n) 0 a (omega arith), get_or-append (newly now before n) (one_if (fresh n) n) 0 b q)
      (newly_ascending n a b h q))
      (λ e q. rw (q, get_or-append (newly now before n) (one_if (fresh n) n) 0 a (omega arith)) (newly_below n a (omega arith)))

-- AS FAR AS n both say the same
pub newly_same : (now now' before before' : ℕ → Bool) (n : ℕ) → ((i : ℕ) → i < n → now i ≡ now' i) → ((i : ℕ) → i < n → before i ≡ before' i)
    → newly now before n ≡ newly now' before' n
unfolding newly
newly_same now now' before before' zero e f = refl
newly_same now now' before before' (suc n) e f =
    rw (e n (omega arith), f n (omega arith), newly_same now now' before before' n (λ i h. e i (omega arith)) (λ i h. f i (omega arith))) refl
