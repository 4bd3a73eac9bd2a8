-- Document 02, T-09, of any call: the index that goes with 14, and what two cores that keep the documents say of the same call.
use Rattle.std.specs.Prelude.{ℕ, ◌≡◌, true, List}
use Rattle.refusal.specs.declared.Verdict.{Verdict}
use Rattle.refusal.specs.Refusals.{number_of, index_of}
use Rattle.refusal.specs.Causes.{Cause, numbers_of, ranked_from, Lowest, First}

-- with 14 goes an index of which this holds
abbrev pub Names : Verdict → (ℕ → Type 0) → Type 0
Names v Promised = number_of v ≡ 14 → Promised (index_of v)

-- A CORE, of whatever maker, KEEPS THE DOCUMENTS in a call that has these causes: it gives the lowest number that applies, and with 14 such an index
pub record Keeps (causes : List Cause) (Promised : ℕ → Type 0) (v : Verdict) : Type 0 where
  pub lowest : Lowest v causes
  pub names : Names v Promised

-- it holds of one index alone
abbrev pub OfOne : (ℕ → Type 0) → Type 0
OfOne Promised = (i j : ℕ) → Promised i → Promised j → i ≡ j

-- the same number, and with 14 the same index
pub record SameAnswer (v v' : Verdict) : Type 0 where
  pub number : number_of v ≡ number_of v'
  pub index : number_of v ≡ 14 → index_of v ≡ index_of v'

-- TWO CORES that keep the documents say the same: an answer is a function of what a call is given, and no index is free
pub record TwoCores : Type 1 where
  pub same : (causes : List Cause) (Promised : ℕ → Type 0) → ranked_from 0 (numbers_of causes) ≡ true → OfOne Promised → (v v' : Verdict)
      → Keeps causes Promised v → Keeps causes Promised v' → SameAnswer v v'
  pub same_load : (causes : List Cause) (v v' : Verdict) → First v causes → First v' causes → v ≡ v'
