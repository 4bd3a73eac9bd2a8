-- Document 01, "Turning a call back", as data: the causes that turn a call back, each with its number, and the order in which they are told.
use Rattle.std.specs.Prelude.{ℕ, suc, ◌≤◌, ◌≡◌, Bool, true, false, cond, ◌&&◌, ◌||◌, List, [], ◌∷◌, ◌++◌, leb, ltb, eqb, length}
use Rattle.refusal.specs.declared.Verdict.{Verdict}
use Rattle.refusal.specs.declared.Verdict.TheVariants.{Accepted, Refused, Unsound}
use Rattle.refusal.specs.Refusals.{number_of, is_accepted}

-- a cause of the table and whether it holds; 14 carries the index of a cell
pub data Cause : Type 0 where
  cause : ℕ → Bool → Cause
  unsound : ℕ → Bool → Cause

abbrev pub told : Cause → Verdict
told (cause k h) = Refused k
told (unsound j h) = Unsound j

abbrev pub holds : Cause → Bool
holds (cause k h) = h
holds (unsound j h) = h

-- refused by the cause if it holds, else as the causes behind it say
abbrev pub refuse_by : Cause → Verdict → Verdict
refuse_by x rest = cond (holds x) (told x) rest

-- THE VERDICT of a call that has these causes: that of the first that holds
unfoldable pub first_of : List Cause → Verdict
first_of [] = Accepted
first_of (x ∷ xs) = refuse_by x (first_of xs)

-- the causes of two that are handed in, each beside its like
unfoldable pub paired : List Cause → List Cause → List Cause
paired [] ys = ys
paired (x ∷ xs) [] = x ∷ xs
paired (x ∷ xs) (y ∷ ys) = x ∷ y ∷ paired xs ys

-- the number k applies to the call: a cause of that number holds
unfoldable pub applies : ℕ → List Cause → Bool
applies k [] = false
applies k (x ∷ xs) = (eqb (number_of (told x)) k && holds x) || applies k xs

-- the numbers of the causes, as they stand
unfoldable pub numbers_of : List Cause → List ℕ
numbers_of [] = []
numbers_of (x ∷ xs) = number_of (told x) ∷ numbers_of xs

-- THE TABLE'S ORDER: the lowest number that applies is given. Document 02's numbers rank by their place: 19 and 20 stand after 7 and before 14
abbrev pub table : List ℕ
table = 1 ∷ 2 ∷ 3 ∷ 4 ∷ 5 ∷ 6 ∷ 7 ∷ 19 ∷ 20 ∷ 8 ∷ 9 ∷ 10 ∷ 11 ∷ 12 ∷ 13 ∷ 14 ∷ 15 ∷ 16 ∷ 17 ∷ 18 ∷ []

-- the place of a number in an order, from 0 on; past its end for a number that is not in it
unfoldable pub place_in : List ℕ → ℕ → ℕ
place_in [] k = 0
place_in (x ∷ xs) k = cond (eqb x k) 0 (suc (place_in xs k))

-- THE RANK of a number: its place in the table
abbrev pub rank_of : ℕ → ℕ
rank_of k = place_in table k

-- numbers of the table from this rank on, none before one that stands ahead of it
unfoldable pub ranked_from : ℕ → List ℕ → Bool
ranked_from r [] = true
ranked_from r (k ∷ ks) = leb r (rank_of k) && ltb (rank_of k) (length table) && ranked_from (rank_of k) ks

-- A LOAD'S OWN ORDER: "buffer empty or no multiple of 512 (16), then 17 over every block, 18 over block 0, 1 to 5, exact block count (16),
-- 18 for the zero fill after the grid, 6, 14"
abbrev pub load_order : List ℕ
load_order = 16 ∷ 17 ∷ 18 ∷ 1 ∷ 2 ∷ 3 ∷ 4 ∷ 5 ∷ 16 ∷ 18 ∷ 6 ∷ 14 ∷ []

-- WHAT IS CLAIMED OF A CALL: its verdict is that of its causes; these have these numbers, which stand in the table's order
pub record Told (v : Verdict) (numbers : List ℕ) (causes : List Cause) : Type 0 where
  pub is : v ≡ first_of causes
  pub numbered : numbers_of causes ≡ numbers
  pub ordered : ranked_from 0 numbers ≡ true

-- and of a load, whose causes stand in its own order
pub record ToldInLoadOrder (v : Verdict) (causes : List Cause) : Type 0 where
  pub is : v ≡ first_of causes
  pub numbered : numbers_of causes ≡ load_order

-- WHAT FOLLOWS, in document 01's words: the number given applies, it is the lowest that does, and a call is accepted exactly if none does
pub record Lowest (v : Verdict) (causes : List Cause) : Type 0 where
  pub told_applies : is_accepted v ≡ false → applies (number_of v) causes ≡ true
  pub refuses : (k : ℕ) → applies k causes ≡ true → is_accepted v ≡ false
  pub lowest : (k : ℕ) → applies k causes ≡ true → rank_of (number_of v) ≤ rank_of k
  pub none_applies : v ≡ Accepted → (k : ℕ) → applies k causes ≡ false
  pub accepts : ((k : ℕ) → applies k causes ≡ false) → v ≡ Accepted

-- of a load: the cause that is told holds, and none that stands before it; and it is accepted exactly if none does
pub record FirstHolding (v : Verdict) (causes : List Cause) : Type 0 where
  pub before : List Cause
  pub this : Cause
  pub behind : List Cause
  pub split : causes ≡ before ++ this ∷ behind
  pub none_before : first_of before ≡ Accepted
  pub this_holds : holds this ≡ true
  pub this_told : v ≡ told this

pub record First (v : Verdict) (causes : List Cause) : Type 0 where
  pub first : is_accepted v ≡ false → FirstHolding v causes
  pub none_applies : v ≡ Accepted → (k : ℕ) → applies k causes ≡ false
  pub accepts : ((k : ℕ) → applies k causes ≡ false) → v ≡ Accepted
