-- Columns of codes are below cols if each code's are, and a cell judged is a cell of some code. Assumes nothing.
use Prim.Native.Nat.{ℕ, ◌+◌, ◌*◌, ◌/◌, ◌%◌, ◌≤◌, ◌<◌, min}
use mathlib.Core.Path.{◌≡◌, refl, sym, ◌∙◌}
use mathlib.Core.Bool.{Bool, true, false, cond, true≢false}
use mathlib.Core.List.{List, [], ◌∷◌}
use native.Mathlib.Omega.{arith}
use native.Mathlib.Nat.{mod-lt, div-add-mod', div-lt_iff_lt-mul}
use lib.ListN.{length, get_or, take, length-take}
use lib.Seq.{get_or-take, take_all}
use lib.Dec.{eqb}
use borrow.Author.Tests.{eq-eqb, le-ltb}
use Rattle.laws.proofs.PartLaws.{part_at}
use Rattle.refusal.specs.declared.Verdict.TheVariants.{Accepted}
use Rattle.refusal.proofs.GateLaws.{gate_open, gate_passed}
use Rattle.cell.specs.Cell.{sound_of}
use Rattle.sketch.specs.declared.MicroCm.{MicroCm}
use Rattle.sketch.specs.Sketch.{cell_of, key_cells, all_cells}
use Rattle.sketch.specs.Refusals.{all_below, key_fits, refuse_sketch, sketch_verdict, read_verdict}
use Rattle.sketch.specs.Workers.{Ready, Judged}
use Rattle.sketch.proofs.AddressLaws.{each_below, key_column, product_le}
use Rattle.sketch.proofs.JudgedLaws.{judged_cons}
use Rattle.sketch.proofs.ReadyLaws.{ready_of, keyed_ready}
use Rattle.sketch.proofs.ReadingLaws.{keyed, keyed_gate, cells}
use Rattle.sketch.proofs.SketchGates.{judged, judged_gate, sketch_gate}
use Rattle.codes.specs.declared.Watch.{Watch}
use Rattle.codes.specs.Codes.{code_in, code_cells, is_in, those, watched_cells}
use Rattle.codes.specs.Refusals.{codes_fit, kept_fit, set_verdict, ask_verdict}
use Rattle.codes.specs.Acceptance.{CodeAcceptance}
use Rattle.codes.proofs.InLaws.{or_true, in_where, not_in_none}
use Rattle.codes.proofs.CellLaws.{code_cell_where, sound_judged}

-- COLUMNS of codes each of which is a key
module _ (k : MicroCm) (columns : List ℕ) (count : ℕ) (some : 1 ≤ k.rows) (room : count * k.rows ≤ length columns)
    (fits : (i : ℕ) → i < count → key_fits k (code_in k.rows columns i) ≡ true) where
  column_low : (p : ℕ) → p < count * k.rows → get_or columns p 0 < k.cols
  column_low p h =
      let i = p / k.rows in
      let r = p % k.rows in
      let low : i < count = (div-lt_iff_lt-mul some).1 h in
      let rest : r < k.rows = mod-lt p (omega arith) in
      let whole : i * k.rows + r ≡ p = div-add-mod' p k.rows in
      rw (← whole, ← part_at (i * k.rows) k.rows columns r rest) (key_column k (code_in k.rows columns i) (fits i low) r rest)

  columns_low : all_below k.cols (take (count * k.rows) columns) ≡ true
  columns_low =
      each_below k.cols (take (count * k.rows) columns)
      (λ p h.
      let l : p < count * k.rows = omega (arith, length-take (count * k.rows) columns) in
      rw (get_or-take (count * k.rows) columns p 0 l) (column_low p l))

-- CELLS: what is judged is a cell of a code
those_in : (list : List ℕ) (j : ℕ) (xs : List ℕ) → is_in j (those list xs) ≡ true → is_in j list ≡ true
unfolding those
those_in list j [] e = absurd (true≢false (sym e ∙ not_in_none j))
those_in list j (x ∷ xs) e = by (is_in x list) refl (those_in list j xs) e
  where
    by : (b : Bool) → is_in x list ≡ b → (is_in j (those list xs) ≡ true → is_in j list ≡ true)
        → is_in j (cond b (x ∷ those list xs) (those list xs)) ≡ true → is_in j list ≡ true
    by true q later e = in_where j x (those list xs) e (is_in j list ≡ true) (λ same. rw (← same) q) later
    by false q later e = later e

module _ (k : MicroCm) (g : List ℕ) where
  judged_in : (cells : List ℕ) (j : ℕ) → Judged k g cells → is_in j cells ≡ true → sound_of k.params.t k.params.c (cell_of k g j) ≡ true
  judged_in [] j w e = absurd (true≢false (sym e ∙ not_in_none j))
  judged_in (x ∷ xs) j w e =
      in_where j x xs e (sound_of k.params.t k.params.c (cell_of k g j) ≡ true) (λ same. rw (← same) (judged_cons k g x xs w).0)
      (judged_in xs j (judged_cons k g x xs w).1)

  codes_judged : (columns : List ℕ) (count : ℕ) → ((i : ℕ) → i < count → Judged k g (key_cells k 0 (code_in k.rows columns i)))
      → Judged k g (watched_cells k columns count)
  codes_judged columns count sound =
      sound_judged k g (watched_cells k columns count) (λ j e.
      let it = code_cell_where k columns count j (those_in (code_cells k columns count) j (all_cells k) e) in
      judged_in (key_cells k 0 (code_in k.rows columns it.0)) j (sound it.0 it.1) it.2)

-- SETTING
sets : (k : MicroCm) (g columns : List ℕ) (count : ℕ) → sketch_verdict k g ≡ Accepted → length columns ≡ count * k.rows
    → ((i : ℕ) → i < count → key_fits k (code_in k.rows columns i) ≡ true) → count ≤ 64 → set_verdict k columns count ≡ Accepted
unfolding codes_fit
sets k g columns count good whole fits few =
    let ready = ready_of k g good in
    let past = (gate_passed (judged k) (judged_gate k) _ good).0 in
    let all : take (count * k.rows) columns ≡ columns = take_all (count * k.rows) columns (omega arith) in
    let low : all_below k.cols columns ≡ true = rw all at (columns_low k columns count ready.rows_low (omega arith) fits) in
    gate_open (judged k) (judged_gate k) _ past ∙ rw (eq-eqb _ _ whole, low, le-ltb 64 count few) refl

-- ASKING
module _ (k : MicroCm) (w : Watch) (columns g : List ℕ) (room : ℕ) (good : sketch_verdict k g ≡ Accepted) where
  ready : Ready k (length g)
  ready = ready_of k g good

  fitting : w.count ≤ 64 → w.count ≤ room → kept_fit k w columns ≡ true → Judged k g (watched_cells k columns w.count)
      → ask_verdict k w columns g room ≡ Accepted
  fitting few enough fit sound =
      gate_open (refuse_sketch k g) (sketch_gate k g) _ good ∙ rw (fit, le-ltb 64 w.count few, le-ltb room w.count enough) sound

  asks_none : w.count ≡ 0 → ask_verdict k w columns g room ≡ Accepted
  unfolding kept_fit
  asks_none e =
      fitting (omega arith) (omega arith) (rw (eq-eqb w.count 0 e) refl) (codes_judged k g columns w.count (λ i h. absurd (omega arith)))

  module _ (rows : w.rows ≡ k.rows) (long : length columns ≡ 8192)
      (reads : (i : ℕ) → i < w.count → read_verdict k (code_in k.rows columns i) g ≡ Accepted) (few : w.count ≤ 64) where
    read : (i : ℕ) → i < w.count → (key_fits k (code_in k.rows columns i) ≡ true) × Judged k g (key_cells k 0 (code_in k.rows columns i))
    read i h =
        let key = code_in k.rows columns i in
        let past = gate_passed (keyed k key g) (keyed_gate k key g) (cells k key g) (reads i h) in
        ((keyed_ready k key g past.0).1, past.1)

    kept : kept_fit k w columns ≡ true
    unfolding kept_fit
    kept =
        let m : min w.count 64 ≡ w.count = omega arith in
        let all : w.count * k.rows ≤ length columns = rw long (product_le w.count k.rows 64 128 few ready.rows_high) in
        rw (m, eq-eqb _ _ rows, columns_low k columns w.count ready.rows_low all (λ i h. (read i h).0)) (or_true (eqb w.count 0))

    asks : w.count ≤ room → ask_verdict k w columns g room ≡ Accepted
    asks enough = fitting few enough kept (codes_judged k g columns w.count (λ i h. (read i h).1))

pub code_acceptance : CodeAcceptance
code_acceptance = record {
  sets = sets;
  asks = λ k w columns g room good rows long reads few enough. asks k w columns g room good rows long reads few enough;
  asks_none = asks_none;
}
