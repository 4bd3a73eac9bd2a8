-- From a fresh start the whole table of refusals comes to 7 and 8 alone, as the tally judges: the settings stay accepted, the state alive,
-- the grid whole, every cell sound.
use Prim.Native.Nat.{ℕ, ◌^◌}
use mathlib.Core.Path.{◌≡◌, refl, ◌∙◌}
use mathlib.Core.Bool.{Bool, true, false, not, ◌&&◌, not-not}
use mathlib.Core.List.{List, []}
use lib.Dec.{eqb}
use lib.ListN.{length}
use borrow.Author.Tests.{eq-eqb, ne_eqb}
use Rattle.laws.proofs.ChoiceLaws.{either}
use Rattle.refusal.specs.declared.Verdict.{Verdict}
use Rattle.refusal.specs.declared.Verdict.TheVariants.{Accepted, Unsound}
use Rattle.refusal.specs.Refusals.{is_accepted, refuse, outside}
use Rattle.refusal.proofs.VerdictLaws.{not_refused}
use Rattle.clock.specs.declared.SubWindowClock.{SubWindowClock}
use Rattle.clock.specs.Clock.{length_of, n_of, is_count, tick_of, advance_of}
use Rattle.sketch.specs.declared.MicroCm.{MicroCm}
use Rattle.sketch.specs.Sketch.{cells_of, grid_bytes, key_cells, all_cells, World}
use Rattle.sketch.specs.Refusals.{grid_fits, all_below, key_fits, refuse_settings, refuse_sketch, refuse_unsound, judged_cells, update_call, update_at_call, advance_call}
use Rattle.sketch.proofs.KeyLaws.{key_cells_below}
use Rattle.sketch.proofs.WorldLaws.{fits_key, none_unsound, all_cells_below}
use Rattle.band.specs.Calls.{Call, update, update_at, advance, Settings}
use Rattle.band.specs.Tally.{Tally, key_accepted, accepts}
use Rattle.band.specs.Band.{AcceptedSettings}
use Rattle.band.proofs.Runs.{verdict_of}
use Rattle.band.proofs.Reached.{Reached}

-- 7 for the columns, 8 for the kind of clock
abbrev pub arguments_verdict : Settings → Call → Verdict
arguments_verdict S (update key) = refuse 7 (not (key_accepted S key)) (refuse 8 (not (is_count S.clock)) Accepted)
arguments_verdict S (update_at key reading) = refuse 7 (not (key_accepted S key)) (refuse 8 (is_count S.clock) Accepted)
arguments_verdict S (advance reading) = refuse 8 (is_count S.clock) Accepted

seven_eight : (a b : Bool) → is_accepted (refuse 7 (not a) (refuse 8 b Accepted)) ≡ (a && not b)
seven_eight true true = refl
seven_eight true false = refl
seven_eight false b = refl

pub arguments_accepts : (S : Settings) (call : Call) → is_accepted (arguments_verdict S call) ≡ accepts S call
unfolding accepts
arguments_accepts S (update key) = seven_eight (key_accepted S key) (not (is_count S.clock)) ∙ rw (not-not (is_count S.clock)) refl
arguments_accepts S (update_at key reading) = seven_eight (key_accepted S key) (is_count S.clock)
arguments_accepts S (advance reading) = seven_eight true (is_count S.clock)

-- four causes that do not hold are passed by, whatever stands after them
four_pass : (a b c d : Bool) (rest : Verdict) → refuse 1 a (refuse 2 b (refuse 3 c (refuse 4 d rest))) ≡ Accepted
    → (rest ≡ Accepted) × ((other : Verdict) → refuse 1 a (refuse 2 b (refuse 3 c (refuse 4 d other))) ≡ other)
four_pass a b c d rest e =
    let no1 = not_refused 1 a (refuse 2 b (refuse 3 c (refuse 4 d rest))) e in
    let no2 = not_refused 2 b (refuse 3 c (refuse 4 d rest)) no1.1 in
    let no3 = not_refused 3 c (refuse 4 d rest) no2.1 in
    let no4 = not_refused 4 d rest no3.1 in
    (no4.1, λ other. rw (no1.0, no2.0, no3.0, no4.0) refl)

-- so what is accepted has settings by which nothing is refused, and what stands after 1 to 4 accepts too
pub settings_first : (S : Settings) (rest : Verdict) → refuse_settings S.rows S.cols S.params S.clock rest ≡ Accepted
    → (rest ≡ Accepted) × ((other : Verdict) → refuse_settings S.rows S.cols S.params S.clock other ≡ other)
settings_first S rest e =
    four_pass (outside 1 4096 S.params.t) (outside 2 256 S.params.c) (outside 1 (2 ^ 53) (length_of S.clock))
    (not (grid_fits S.rows S.cols)) rest e

-- 1 to 4 never arise: the clock moves, and its length stays
pub settings_pass : (S : Settings) → AcceptedSettings S → (clock : SubWindowClock) → length_of clock ≡ length_of S.clock
    → (rest : Verdict) → refuse_settings S.rows S.cols S.params clock rest ≡ rest
settings_pass S ok clock e rest = rw e ((settings_first S Accepted ok).1 rest)

module _ (S : Settings) (ok : AcceptedSettings S) (T : Tally) (w : World) (h : Reached S T w) where
  abbrev k : MicroCm
  k = w.sketch

  abbrev g : List ℕ
  g = w.grid

  -- 1 to 6 never arise
  settings_kept : (rest : Verdict) → refuse_settings k.rows k.cols k.params k.clock rest ≡ rest
  settings_kept rest = rw h.settings (settings_pass S ok k.clock h.span rest)

  pub sketch_pass : (rest : Verdict) → refuse_sketch k g rest ≡ rest
  sketch_pass rest = settings_kept _ ∙ rw (ne_eqb k.rounding.state 0 h.good.alive, eq-eqb (length g) (grid_bytes k) h.good.whole) refl

  -- 7 is as the tally judges
  pub key_as_tallied : (key : List ℕ) → key_fits k key ≡ key_accepted S key
  unfolding key_fits
  key_as_tallied key = rw h.settings refl

  -- 14 never arises
  judged_pass : (clock : SubWindowClock) (js : List ℕ) → all_below (cells_of k) js ≡ true → refuse_unsound k g (judged_cells k clock js) Accepted ≡ Accepted
  judged_pass clock js low =
      none_unsound Unsound Accepted k g k.rounding.state h.good (judged_cells k clock js)
      (either (λ l. all_below (cells_of k) l ≡ true) (eqb (n_of clock) (n_of k.clock)) js (all_cells k) (λ e. low) (λ e. all_cells_below k))

  -- the columns are judged before the cells are
  module _ (key : List ℕ) (clock : SubWindowClock) (rest : Verdict → Verdict) where
    abbrev judged : Verdict
    judged = refuse_unsound k g (judged_cells k clock (key_cells k 0 key)) Accepted

    key_first : refuse 7 (not (key_fits k key)) (rest judged) ≡ refuse 7 (not (key_accepted S key)) (rest Accepted)
    key_first = by (key_fits k key) refl ∙ rw (key_as_tallied key) refl
      where
        by : (a : Bool) → key_fits k key ≡ a → refuse 7 (not a) (rest judged) ≡ refuse 7 (not a) (rest Accepted)
        by true e = rw (judged_pass clock (key_cells k 0 key) (key_cells_below k 0 key (fits_key k key e))) refl
        by false e = refl

  -- THE VERDICT, whole
  pub verdict_is : (call : Call) → verdict_of w call ≡ arguments_verdict S call
  unfolding update_call update_at_call advance_call all_below
  verdict_is (update key) = sketch_pass _ ∙ key_first key (tick_of k.clock) (λ v. refuse 8 (not (is_count k.clock)) v) ∙ rw h.kind refl
  verdict_is (update_at key reading) = sketch_pass _ ∙ key_first key (advance_of k.clock reading) (λ v. refuse 8 (is_count k.clock) v) ∙ rw h.kind refl
  verdict_is (advance reading) = sketch_pass _ ∙ rw (judged_pass (advance_of k.clock reading) [] refl, h.kind) refl

  pub verdict_accepts : (call : Call) → is_accepted (verdict_of w call) ≡ accepts S call
  verdict_accepts call = rw (verdict_is call) (arguments_accepts S call)
