-- Document 01, "Turning a call back", for the header: what the numbers of a sketch are refused by, and what a header tells.
use Rattle.std.specs.Prelude.{ℕ, Bool, not, ◌&&◌, ◌||◌, List, ltb, eqb, drop}
use Rattle.refusal.specs.declared.Verdict.{Verdict}
use Rattle.refusal.specs.Refusals.{number_of, when_accepted}
use Rattle.refusal.specs.Causes.{Cause, cause, refuse_by}
use Rattle.sketch.specs.Refusals.{numbers_verdict}
use Rattle.store_bytes.specs.Fill.{all_zero}
use Rattle.store_header.specs.declared.Header.{Header}
use Rattle.store_header.specs.declared.Header.TheVariants.{Sketch, Refused}
use Rattle.store_header.specs.Header.{form_number, field_of, sketch_in}

-- 18 over block 0: the form, the kind of clock, a byte that must be 0, the epoch of a count clock
unfoldable pub other_form : ℕ → List ℕ → Bool
other_form form p =
    not (eqb (field_of 4 0 p) form) || ltb 1 (field_of 4 20 p) || not (all_zero (drop 56 p)) || (eqb (field_of 4 20 p) 0 && not (eqb (field_of 8 32 p) 0))

abbrev pub wrong_form : List ℕ → Bool
wrong_form p = other_form form_number p

abbrev pub bad_form : List ℕ → Cause
bad_form p = cause 18 (wrong_form p)

-- the header's answer: 18, then 1 to 5
abbrev pub header_verdict : List ℕ → Verdict
header_verdict p = refuse_by (bad_form p) (numbers_verdict (sketch_in p))

unfoldable pub header_in : List ℕ → Header
header_in p = when_accepted (header_verdict p) (Sketch (sketch_in p)) (Refused (number_of (header_verdict p)))

-- document 01's number of a header's answer; 0 is no number of the table
abbrev pub header_number : Header → ℕ
header_number (Sketch k) = 0
header_number (Refused n) = n
