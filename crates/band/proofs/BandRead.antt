-- Demand 3 as the reading tells it: after every list of calls the call that reads a key is accepted, and the Over figure that it answers
-- is the one that the band bounds.
use Prim.Native.Nat.{ℕ}
use mathlib.Core.Path.{◌≡◌, refl, sym, ◌∙◌}
use mathlib.Core.Bool.{true}
use mathlib.Core.List.{List}
use borrow.Author.Tests.{not-false}
use Rattle.laws.specs.Within.{Within}
use Rattle.refusal.specs.declared.Verdict.TheVariants.{Accepted, Unsound}
use Rattle.refusal.proofs.VerdictLaws.{not_refused}
use Rattle.sketch.specs.declared.ReadingAnswer.{ReadingAnswer}
use Rattle.sketch.specs.Sketch.{key_cells, World}
use Rattle.sketch.specs.Refusals.{key_fits, read_verdict, read_call}
use Rattle.sketch.specs.Workers.{Judged}
use Rattle.sketch.proofs.KeyLaws.{key_cells_below}
use Rattle.sketch.proofs.ReadingLaws.{key_read}
use Rattle.sketch.proofs.WorldLaws.{fits_key, none_unsound}
use Rattle.band.specs.Calls.{Call, Settings}
use Rattle.band.specs.Tally.{key_accepted, tally, exact}
use Rattle.band.specs.Band.{AcceptedSettings, Key, NeverAtTop, after, covered, band_width, highest_held, over_after}
use Rattle.band.proofs.Reached.{Reached}
use Rattle.band.proofs.RefusalLaws.{sketch_pass, key_as_tallied}
use Rattle.band.proofs.Steps.{reached}
use Rattle.band.proofs.KeyRight.{key_of, of_key}
use Rattle.band.proofs.Band.{band}

module _ (S : Settings) (ok : AcceptedSettings S) (seed : ℕ) (calls : List Call) (key : List ℕ) where
  abbrev w : World
  w = after S seed calls

  abbrev here : Reached S (tally S calls) w
  here = reached S ok seed calls

  abbrev answer : ReadingAnswer
  answer = read_call w.sketch key w.grid

  fits_as_tallied : key_fits w.sketch key ≡ key_accepted S key
  fits_as_tallied = key_as_tallied S ok (tally S calls) w here key

  module _ (right : Key S key) where
    fits : key_fits w.sketch key ≡ true
    fits = fits_as_tallied ∙ of_key S key right

    judged : Judged w.sketch w.grid (key_cells w.sketch 0 key)
    judged =
        none_unsound Unsound Accepted w.sketch w.grid w.sketch.rounding.state here.good (key_cells w.sketch 0 key)
        (key_cells_below w.sketch 0 key (fits_key w.sketch key fits))

    read_accepted : read_verdict w.sketch key w.grid ≡ Accepted
    read_accepted = key_read w.sketch key w.grid (sketch_pass S ok (tally S calls) w here Accepted) fits judged

    pub answer_accepted : answer.verdict ≡ Accepted
    unfolding read_call
    answer_accepted = read_accepted

    pub answer_over : answer.over ≡ over_after S seed calls key
    unfolding read_call
    answer_over = rw read_accepted refl

    pub band_as_read : NeverAtTop S seed calls key
        → Within (band_width (covered S (tally S calls)) S.params.c (highest_held S seed calls key)) answer.over (exact S (tally S calls) key)
    band_as_read top = rw answer_over (band S ok seed calls key right top)

  -- AND ONLY A KEY IS READ: whatever else is asked is refused
  pub answer_right : answer.verdict ≡ Accepted → Key S key
  unfolding read_call
  answer_right v =
      let fits = not-false _ (not_refused 7 _ _ (sym (sketch_pass S ok (tally S calls) w here _) ∙ v)).0 in
      key_of S key (sym fits_as_tallied ∙ fits)
