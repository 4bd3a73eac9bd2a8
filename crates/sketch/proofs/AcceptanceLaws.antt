-- What is accepted and which cells are looked at, read off the lists of causes: 14 applies where a judged cell is unsound, and no other cause asks
-- for a byte. Assumes nothing.
use Prim.Native.Nat.{ℕ, zero, suc, ◌+◌, ◌*◌, ◌^◌, ◌≤◌, ◌<◌}
use mathlib.Core.Path.{◌≡◌, refl, sym, ap, ◌∙◌}
use mathlib.Core.Bool.{Bool, true, false, cond, ◌||◌, true≢false}
use mathlib.Core.List.{List, [], ◌∷◌}
use native.Mathlib.Omega.{arith}
use native.Mathlib.Nat.{zero-add, add-zero, pow-le-pow_right, one-le-pow, pow-suc}
use lib.Dec.{eqb}
use lib.ListN.{length, get_or}
use borrow.Author.Tests.{eq-eqb, ne_eqb, eqb-true, eqb-false, le-leb}
use Rattle.laws.proofs.ChoiceLaws.{both_hold}
use Rattle.refusal.specs.Causes.{applies, paired}
use Rattle.refusal.proofs.CauseLaws.{lowest_told}
use Rattle.refusal.proofs.GateLaws.{gate_open}
use Rattle.clock.specs.declared.SubWindowClock.{SubWindowClock}
use Rattle.clock.specs.Clock.{n_of, tick_of, advance_of}
use Rattle.sketch.specs.declared.MicroCm.{MicroCm}
use Rattle.sketch.specs.Sketch.{cells_of, cell_index, key_cells, count_from, all_cells}
use Rattle.sketch.specs.Audit.{first_unsound}
use Rattle.sketch.specs.Refusals.{bits_up_to, grid_fits, all_below, key_fits, refuse_sketch, judged_cells, update_verdict, update_at_verdict}
use Rattle.sketch.specs.Refusals.{advance_verdict, highest_verdict, merge_verdict}
use Rattle.sketch.specs.Workers.{Judged}
use Rattle.sketch.specs.Causes.{update_causes, update_at_causes, advance_causes, highest_causes, merge_causes}
use Rattle.sketch.specs.Acceptance.{Fitting, Limits, OneColumnARow, sound_at, SomeUnsound, Stays, Acceptance}
use Rattle.sketch.proofs.SettingsLaws.{good_grid}
use Rattle.sketch.proofs.AddressLaws.{all_below_lem, each_below}
use Rattle.sketch.proofs.SketchGates.{sketch_gate}
use Rattle.sketch.proofs.JudgedLaws.{cons_judged}
use Rattle.sketch.proofs.CauseTheorems.{sketch_calls}

-- ROWS AND COLS
fitting : (rows cols : ℕ) → grid_fits rows cols ≡ true → Fitting rows cols
fitting rows cols e =
    let g = good_grid rows cols e in
    record { bits = bits_up_to 16 cols; bits_low = g.bits_low; bits_high = g.bits_high; power = g.cols_power; rows_low = g.rows_low; few = g.key_bits }

-- a power of two is found among those up to any higher one
bits_found : (k b : ℕ) → 1 ≤ b → b ≤ k → bits_up_to k (2 ^ b) ≡ b
unfolding bits_up_to
bits_found zero b l h = absurd (omega arith)
bits_found (suc k) b l h = by (eqb b (suc k)) refl (bits_found k b l)
  where
    by : (x : Bool) → eqb b (suc k) ≡ x → (b ≤ k → bits_up_to k (2 ^ b) ≡ b) → cond (eqb (2 ^ b) (2 ^ suc k)) (suc k) (bits_up_to k (2 ^ b)) ≡ b
    by true q later =
        let same : b ≡ suc k = eqb-true _ _ q in
        rw (eq-eqb (2 ^ b) (2 ^ suc k) (ap (λ (n : ℕ). 2 ^ n) same)) (sym same)
    by false q later =
        let below : b ≤ k = omega (arith, eqb-false b (suc k) q) in
        let less : 2 ^ b ≤ 2 ^ k = pow-le-pow_right (omega arith) below in
        let some : 1 ≤ 2 ^ k = one-le-pow k 2 (omega arith) in
        let apart : 2 ^ b ≡ 2 ^ suc k → ⊥ = λ e. omega (arith, pow-suc 2 k) in
        rw (ne_eqb (2 ^ b) (2 ^ suc k) apart) (later below)

fits : (rows cols : ℕ) → Fitting rows cols → grid_fits rows cols ≡ true
unfolding grid_fits
fits rows cols f =
    let is : bits_up_to 16 cols ≡ f.bits = rw f.power (bits_found 16 f.bits f.bits_low f.bits_high) in
    rw (is, le-leb 1 rows f.rows_low, le-leb 1 f.bits f.bits_low, le-leb (rows * f.bits) 128 f.few) refl

limits : Limits
unfolding grid_fits bits_up_to
limits =
    record {
      least = refl;
      no_row = refl;
      one_col = refl;
      no_power = refl;
      most_cols = refl;
      too_many_bits = refl;
      too_many_cols = refl;
      most_rows = refl;
      too_many_rows = refl;
    }

-- A KEY
module _ (k : MicroCm) (key : List ℕ) where
  key_is : key_fits k key ≡ true → OneColumnARow k key
  unfolding key_fits
  key_is e =
      let parts = both_hold (eqb (length key) k.rows) (all_below k.cols key) e in
      record { each_row = eqb-true _ _ parts.0; each_low = all_below_lem k.cols key parts.1 }

  key_fits_lem : OneColumnARow k key → key_fits k key ≡ true
  unfolding key_fits
  key_fits_lem r = rw (eq-eqb _ _ r.each_row) (each_below k.cols key r.each_low)

-- THE CELLS of the key are sound, so none of those judged is unsound
key_judged : (k : MicroCm) (g key : List ℕ) (first : ℕ)
    → ((row : ℕ) → row < length key → sound_at k g (cell_index k (first + row) (get_or key row 0)) ≡ true) → Judged k g (key_cells k first key)
unfolding key_cells first_unsound
key_judged k g [] first h = refl
key_judged k g (x ∷ xs) first h =
    cons_judged k g (cell_index k first x) (key_cells k (suc first) xs) (rw add-zero at (h 0 (omega arith)))
    (key_judged k g xs (suc first) (λ row l. let e : first + suc row ≡ suc first + row = omega arith in rw e at (h (suc row) (omega arith))))

-- SOME CELL of the grid is unsound, so one of all that are judged is
count_unsound : (k : MicroCm) (g : List ℕ) (count first j : ℕ) → first ≤ j → j < first + count → sound_at k g j ≡ false
    → first_unsound (λ i. true) false k g (count_from first count) ≡ true
unfolding first_unsound count_from
count_unsound k g zero first j l h bad = absurd (omega arith)
count_unsound k g (suc count) first j l h bad = by (eqb first j) refl (sound_at k g first) refl (count_unsound k g count (suc first) j)
  where
    by : (q : Bool) → eqb first j ≡ q → (x : Bool) → sound_at k g first ≡ x
        → (suc first ≤ j → j < suc first + count → sound_at k g j ≡ false → first_unsound (λ i. true) false k g (count_from (suc first) count) ≡ true)
        → cond x (first_unsound (λ i. true) false k g (count_from (suc first) count)) true ≡ true
    by q e false s later = refl
    by true e true s later =
        let same : first ≡ j = eqb-true _ _ e in
        absurd (true≢false (sym s ∙ rw same bad))
    by false e true s later = later (omega (arith, eqb-false first j e)) (omega arith) bad

all_unsound : (k : MicroCm) (g : List ℕ) → SomeUnsound k g → first_unsound (λ i. true) false k g (all_cells k) ≡ true
all_unsound k g s = count_unsound k g (cells_of k) 0 s.index (omega arith) (omega (arith, s.inside)) s.bad

crossing_judges_all : (k : MicroCm) (clock : SubWindowClock) (cells : List ℕ) → (Stays k clock → ⊥) → judged_cells k clock cells ≡ all_cells k
crossing_judges_all k clock cells moves = rw (ne_eqb (n_of clock) (n_of k.clock) moves) refl

staying_judges : (k : MicroCm) (clock : SubWindowClock) (cells : List ℕ) → Stays k clock → judged_cells k clock cells ≡ cells
staying_judges k clock cells stays = rw (eq-eqb (n_of clock) (n_of k.clock) stays) refl

pub acceptance : Acceptance
unfolding applies paired first_unsound
acceptance = record {
  fitting = fitting;
  fits = fits;
  limits = limits;
  key_is = key_is;
  key_fits_lem = key_fits_lem;
  fresh_judges_none = λ rows cols p clock seed g g' e. rw e refl;
  bucket_judges_none = λ k row col g g' e. rw e refl;
  advance_judges_none = λ k reading g g' stays e. rw (staying_judges k (advance_of k.clock reading) [] stays, e) refl;
  update_looks_at_key = λ k key g good fits counted stays sound.
      gate_open (refuse_sketch k g) (sketch_gate k g) _ good
      ∙ rw (fits, counted, staying_judges k (tick_of k.clock) (key_cells k 0 key) stays) (key_judged k g key 0 (λ row l. rw zero-add (sound row l)));
  update_at_looks_at_key = λ k key reading g good fits timed stays sound.
      gate_open (refuse_sketch k g) (sketch_gate k g) _ good
      ∙ rw (fits, timed, staying_judges k (advance_of k.clock reading) (key_cells k 0 key) stays) (key_judged k g key 0 (λ row l. rw zero-add (sound row l)));
  update_looks_at_all = λ k key g moves s.
      (lowest_told (update_verdict k key g) _ (update_causes k key g) (sketch_calls.update k key g)).refuses 14
      (rw (crossing_judges_all k (tick_of k.clock) (key_cells k 0 key) moves, all_unsound k g s) refl);
  update_at_looks_at_all = λ k key reading g moves s.
      (lowest_told (update_at_verdict k key reading g) _ (update_at_causes k key reading g) (sketch_calls.update_at k key reading g)).refuses 14
      (rw (crossing_judges_all k (advance_of k.clock reading) (key_cells k 0 key) moves, all_unsound k g s) refl);
  advance_looks_at_all = λ k reading g moves s.
      (lowest_told (advance_verdict k reading g) _ (advance_causes k reading g) (sketch_calls.advance k reading g)).refuses 14
      (rw (crossing_judges_all k (advance_of k.clock reading) [] moves, all_unsound k g s) refl);
  highest_looks_at_all = λ k g s. (lowest_told (highest_verdict k g) _ (highest_causes k g) (sketch_calls.highest k g)).refuses 14 (rw (all_unsound k g s) refl);
  merge_looks_at_all = λ k g k' g' s.
      (lowest_told (merge_verdict k g k' g') _ (merge_causes k g k' g') (sketch_calls.merge k g k' g')).refuses 14 (rw (all_unsound k g s) refl);
  merge_looks_at_other = λ k g k' g' s.
      (lowest_told (merge_verdict k g k' g') _ (merge_causes k g k' g') (sketch_calls.merge k g k' g')).refuses 14
      (other_applies (first_unsound (λ i. true) false k g (all_cells k)) _ (all_unsound k' g' s));
}
  where
    other_applies : (a b : Bool) → b ≡ true → a || (b || false) ≡ true
    other_applies true b e = refl
    other_applies false true e = refl
    other_applies false false e = absurd (true≢false (sym e))
