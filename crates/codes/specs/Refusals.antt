-- Document 02, T-01: what setting a list and asking are refused by, in the order in which it is told, and what each call leaves.
use Rattle.std.specs.Prelude.{ℕ, ◌*◌, min, Bool, not, ◌&&◌, ◌||◌, List, ltb, eqb, length, take}
use Rattle.refusal.specs.declared.Verdict.{Verdict}
use Rattle.refusal.specs.declared.Verdict.TheVariants.{Accepted}
use Rattle.refusal.specs.Refusals.{when_accepted}
use Rattle.refusal.specs.Causes.{Cause, cause, refuse_by}
use Rattle.sketch.specs.declared.MicroCm.{MicroCm}
use Rattle.sketch.specs.Refusals.{all_below, refuse_numbers, refuse_sketch, refuse_unsound}
use Rattle.codes.specs.declared.Watch.{Watch}
use Rattle.codes.specs.declared.WatchAnswer.{WatchAnswer}
use Rattle.codes.specs.declared.AskAnswer.{AskAnswer}
use Rattle.codes.specs.Codes.{reached_at, newly, flag_at, flags_of, onto, watched_cells}

-- THE CAUSES
-- as many columns as so many codes have, each below cols
unfoldable pub codes_fit : MicroCm → List ℕ → ℕ → Bool
codes_fit k columns count = eqb (length columns) (count * k.rows) && all_below k.cols columns

-- 7: columns that are not one a row for each code, or one that is not below cols
abbrev pub bad_codes : MicroCm → List ℕ → ℕ → Cause
bad_codes k columns count = cause 7 (not (codes_fit k columns count))

-- the kept codes go with the sketch: set for as many rows, each column below cols. Of a count that no setting leaves the first 64 are
-- looked at; where there are no codes, any sketch will do
unfoldable pub kept_fit : MicroCm → Watch → List ℕ → Bool
kept_fit k w columns = eqb w.count 0 || (eqb w.rows k.rows && all_below k.cols (take (min w.count 64 * k.rows) columns))

-- 7: codes of another sketch
abbrev pub foreign_codes : MicroCm → Watch → List ℕ → Cause
foreign_codes k w columns = cause 7 (not (kept_fit k w columns))

-- 19: more than 64 codes
abbrev pub many_codes : ℕ → Cause
many_codes count = cause 19 (ltb 64 count)

-- 20: the list has less room than there are codes
abbrev pub short_list : ℕ → ℕ → Cause
short_list count room = cause 20 (ltb room count)

-- SETTING: 1 to 5, 7, 19; it is lent no grid, and judges no cell
abbrev pub set_verdict : MicroCm → List ℕ → ℕ → Verdict
set_verdict k columns count =
    refuse_numbers k (refuse_by (bad_codes k columns count) (refuse_by (many_codes count) Accepted))

-- a list of so many codes, none of which was at its limit before
abbrev pub new_list : MicroCm → ℕ → Watch
new_list k count = record { count = count; rows = k.rows; reached = 0 }

-- everything that it gives, and the columns and limits that are kept
pub record SetOutcome : Type 0 where
  pub answer : WatchAnswer
  pub columns : List ℕ
  pub limits : List ℕ

abbrev pub set_outcome : WatchAnswer → List ℕ → List ℕ → SetOutcome
set_outcome r columns limits = record { answer = r; columns = columns; limits = limits }

unfoldable pub set_call : MicroCm → Watch → List ℕ → List ℕ → List ℕ → List ℕ → SetOutcome
set_call k w columns limits kept kept-limits =
    let v = set_verdict k columns (length limits) in
    set_outcome (record { verdict = v; watch = when_accepted v (new_list k (length limits)) w })
    (when_accepted v (onto kept columns) kept)
    (when_accepted v (onto kept-limits limits) kept-limits)

-- ASKING: 1 to 6, 7, 19 for a count that no setting leaves, 20, 14 over the cells of all the codes
abbrev pub ask_verdict : MicroCm → Watch → List ℕ → List ℕ → ℕ → Verdict
ask_verdict k w columns g room =
    refuse_sketch k g
    (refuse_by (foreign_codes k w columns)
    (refuse_by (many_codes w.count)
    (refuse_by (short_list w.count room)
    (refuse_unsound k g (watched_cells k columns w.count) Accepted))))

-- the codes that it lists
abbrev pub listed_of : MicroCm → Watch → List ℕ → List ℕ → List ℕ → List ℕ
listed_of k w columns limits g = newly (reached_at k g columns limits) (flag_at w.reached) w.count

-- the same codes, with what this asking found
abbrev pub asked_of : MicroCm → Watch → List ℕ → List ℕ → List ℕ → Watch
asked_of k w columns limits g = record { count = w.count; rows = w.rows; reached = flags_of (reached_at k g columns limits) w.count }

-- everything that it gives, and the list that it leaves; sketch, grid, columns and limits are lent to be read only
pub record AskOutcome : Type 0 where
  pub answer : AskAnswer
  pub list : List ℕ

abbrev pub ask_outcome : AskAnswer → List ℕ → AskOutcome
ask_outcome r list = record { answer = r; list = list }

unfoldable pub ask_call : MicroCm → Watch → List ℕ → List ℕ → List ℕ → List ℕ → AskOutcome
ask_call k w columns limits g list =
    let v = ask_verdict k w columns g (length list) in
    let listed = listed_of k w columns limits g in
    ask_outcome
    (record { verdict = v; listed = when_accepted v (length listed) 0; watch = when_accepted v (asked_of k w columns limits g) w })
    (when_accepted v (onto list listed) list)
