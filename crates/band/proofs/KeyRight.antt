-- A key of the band is exactly one that the tally's own test accepts: its two parts, one by one. The last column counts as much as the first.
use Prim.Native.Nat.{ℕ}
use mathlib.Core.Path.{◌≡◌}
use mathlib.Core.Bool.{true}
use mathlib.Core.List.{List}
use lib.Dec.{eqb}
use lib.ListN.{length}
use native.Mathlib.Omega.{arith}
use borrow.Author.Tests.{eqb-true, eq-eqb}
use Rattle.laws.proofs.ChoiceLaws.{both_hold}
use Rattle.sketch.specs.Refusals.{all_below}
use Rattle.sketch.proofs.AddressLaws.{all_below_lem, each_below}
use Rattle.band.specs.Calls.{Settings}
use Rattle.band.specs.Tally.{key_accepted}
use Rattle.band.specs.Band.{Key}

pub key_of : (S : Settings) (key : List ℕ) → key_accepted S key ≡ true → Key S key
key_of S key e =
    let parts = both_hold (eqb (length key) S.rows) (all_below S.cols key) e in
    let rows : length key ≡ S.rows = eqb-true _ _ parts.0 in
    record { each_row = rows; each_low = λ row h. all_below_lem S.cols key parts.1 row (omega (arith, rows)) }

pub of_key : (S : Settings) (key : List ℕ) → Key S key → key_accepted S key ≡ true
of_key S key right =
    simp (eq-eqb _ _ right.each_row) (each_below S.cols key (λ row l. right.each_low row (rw right.each_row at l)))
