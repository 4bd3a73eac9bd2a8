-- Document 02, T-01, over lists of calls: "At each asking it wants every code whose Over figure is at or above its limit and was below at the
-- asking before. A new list's first asking counts as coming after "below". Exactly these are listed, one time each, in ascending index; their
-- number is returned, and places past the last listed one keep their bytes."
--
-- No flag is looked at here: what an asking found before is gone back to, call by call.
use Rattle.std.specs.Prelude.{ℕ, ◌≤◌, ◌<◌, ◌≡◌, Bool, false, not, ◌&&◌, List, [], ◌∷◌, ltb, length, get_or, take, drop}
use Rattle.refusal.specs.declared.Verdict.TheVariants.{Accepted}
use Rattle.refusal.specs.Refusals.{is_accepted, when_accepted}
use Rattle.sketch.specs.declared.MicroCm.{MicroCm}
use Rattle.sketch.specs.Figures.{over_of}
use Rattle.sketch.specs.Refusals.{read_call}
use Rattle.codes.specs.declared.Watch.{Watch}
use Rattle.codes.specs.Codes.{no_codes, code_in, reached_at, is_in}
use Rattle.codes.specs.Refusals.{AskOutcome, set_verdict, set_call, ask_call}

-- A CALL on the codes. Its sketch and its grid are whatever the calls in between left: items, advances, merges or anything else
pub data Call : Type 0 where
  setting : MicroCm → List ℕ → List ℕ → Call
  asking : MicroCm → List ℕ → List ℕ → Call

-- what is kept from call to call
pub record Kept : Type 0 where
  pub watch : Watch
  pub columns : List ℕ
  pub limits : List ℕ

-- a fresh start or a load leaves no codes, whatever stands in the memory that is lent
abbrev pub none_kept : List ℕ → List ℕ → Kept
none_kept columns limits = record { watch = no_codes; columns = columns; limits = limits }

abbrev pub asked_at : Kept → MicroCm → List ℕ → List ℕ → AskOutcome
asked_at s k g list = ask_call k s.watch s.columns s.limits g list

unfoldable pub after : Call → Kept → Kept
after (setting k columns limits) s =
    let o = set_call k s.watch columns limits s.columns s.limits in record { watch = o.answer.watch; columns = o.columns; limits = o.limits }
after (asking k g list) s = record { watch = (asked_at s k g list).answer.watch; columns = s.columns; limits = s.limits }

-- what a list of calls leaves; the latest call stands first
unfoldable pub run : Kept → List Call → Kept
run s [] = s
run s (x ∷ before) = after x (run s before)

-- THE LIST OF CODES: that of the latest setting that was accepted
pub record CodeList : Type 0 where
  pub columns : List ℕ
  pub limits : List ℕ

unfoldable pub last_set : List Call → CodeList
last_set [] = record { columns = []; limits = [] }
last_set (setting k columns limits ∷ before) =
    when_accepted (set_verdict k columns (length limits)) (record { columns = columns; limits = limits }) (last_set before)
last_set (asking k g list ∷ before) = last_set before

abbrev pub codes_of : List Call → ℕ
codes_of before = length (last_set before).limits

-- code i of that list is at or above its limit
abbrev pub reached_by : List Call → MicroCm → List ℕ → ℕ → Bool
reached_by before k g i = reached_at k g (last_set before).columns (last_set before).limits i

-- it WAS SO AT THE ASKING BEFORE, the latest that was accepted since the list was set; it was below if there was none
unfoldable pub was_reached : Kept → List Call → ℕ → Bool
was_reached s [] i = false
was_reached s (setting k columns limits ∷ before) i = when_accepted (set_verdict k columns (length limits)) false (was_reached s before i)
was_reached s (asking k g list ∷ before) i = when_accepted (asked_at (run s before) k g list).answer.verdict (reached_by before k g i) (was_reached s before i)

-- WHAT IS CLAIMED OF AN ASKING after any list of calls
pub record Listed (s : Kept) (before : List Call) (k : MicroCm) (g list : List ℕ) (o : AskOutcome) : Type 0 where
  -- exactly these, as many as is returned
  pub these : (i : ℕ) → is_in i (take o.answer.listed o.list) ≡ (ltb i (codes_of before) && (reached_by before k g i && not (was_reached s before i)))
  pub returned : o.answer.listed ≤ length o.list
  -- one time each, in ascending index
  pub ascending : (a b : ℕ) → a < b → b < o.answer.listed → get_or o.list a 0 < get_or o.list b 0
  -- places past the last listed one keep their bytes
  pub places : length o.list ≡ length list
  pub behind : drop o.answer.listed o.list ≡ drop o.answer.listed list
  -- the figure that is compared is the Over figure that a reading of the code gives, which is accepted too
  pub as_read : (i : ℕ) → i < codes_of before
      → ((read_call k (code_in k.rows (last_set before).columns i) g).verdict ≡ Accepted)
      × ((read_call k (code_in k.rows (last_set before).columns i) g).over ≡ over_of k g (code_in k.rows (last_set before).columns i))

-- a call that is refused leaves what is kept, and the list that is lent
pub record Left (s : Kept) : Type 0 where
  pub set_refused : (k : MicroCm) (columns limits : List ℕ) → is_accepted (set_verdict k columns (length limits)) ≡ false → after (setting k columns limits) s ≡ s
  pub ask_refused : (k : MicroCm) (g list : List ℕ) → is_accepted (asked_at s k g list).answer.verdict ≡ false
      → (after (asking k g list) s ≡ s) × ((asked_at s k g list).list ≡ list) × ((asked_at s k g list).answer.listed ≡ 0)

-- THE THEOREM: for every list of calls, from any memory of the sizes that are lent
pub record Askings : Type 0 where
  pub listed : (columns limits : List ℕ) → length columns ≡ 8192 → length limits ≡ 64 → (before : List Call) (k : MicroCm) (g list : List ℕ)
      → (asked_at (run (none_kept columns limits) before) k g list).answer.verdict ≡ Accepted
      → Listed (none_kept columns limits) before k g list (asked_at (run (none_kept columns limits) before) k g list)
  pub left : (s : Kept) → Left s
