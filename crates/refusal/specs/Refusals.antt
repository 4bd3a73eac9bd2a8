-- Document 01, "Turning a call back": the number of each verdict, and how the lowest number that applies is found.
use Rattle.std.specs.Prelude.{ℕ, Bool, true, false, cond, ◌||◌, ltb}
use Rattle.refusal.specs.declared.Verdict.{Verdict}
use Rattle.refusal.specs.declared.Verdict.TheVariants.{Accepted, Refused, Unsound}

-- the table's number; 0 is no number of the table
abbrev pub number_of : Verdict → ℕ
number_of Accepted = 0
number_of (Refused k) = k
number_of (Unsound j) = 14

-- the index that 14 carries
abbrev pub index_of : Verdict → ℕ
index_of Accepted = 0
index_of (Refused k) = 0
index_of (Unsound j) = j

abbrev pub is_accepted : Verdict → Bool
is_accepted Accepted = true
is_accepted (Refused k) = false
is_accepted (Unsound j) = false

-- refused by k if the cause holds, else as the causes after it say: written in the table's order, the lowest number is given
abbrev pub refuse : ℕ → Bool → Verdict → Verdict
refuse k cause rest = cond cause (Refused k) rest

-- x is not one of low to high
abbrev pub outside : ℕ → ℕ → ℕ → Bool
outside low high x = ltb x low || ltb high x

-- an accepted call gives one thing, any other gives another
abbrev pub when_accepted {ℓ} : {A : Type ℓ} → Verdict → A → A → A
when_accepted Accepted done left = done
when_accepted (Refused k) done left = left
when_accepted (Unsound j) done left = left

-- a verdict that was reached, and where it accepts, what the causes behind it say
abbrev pub and_then : Verdict → Verdict → Verdict
and_then v rest = when_accepted v rest v
