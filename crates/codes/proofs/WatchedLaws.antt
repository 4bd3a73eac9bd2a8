-- Every cell of a code is one of those that an asking judges: so where it is accepted each code can be read, and 14 names the smallest that is
-- unsound. Assumes nothing.
use Prim.Native.Nat.{ℕ, ◌+◌, ◌*◌, ◌≤◌, ◌<◌}
use mathlib.Core.Path.{◌≡◌, refl, sym, ◌∙◌}
use mathlib.Core.Bool.{Bool, true, false, true≢false}
use mathlib.Core.List.{List}
use native.Mathlib.Omega.{arith}
use native.Mathlib.Nat.{zero-add}
use lib.Dec.{ltb, eqb}
use lib.ListN.{length}
use borrow.Author.Tests.{ltb-true, ltb-false}
use Rattle.laws.proofs.ChoiceLaws.{both_hold}
use Rattle.refusal.specs.declared.Verdict.TheVariants.{Accepted, Unsound}
use Rattle.sketch.specs.declared.MicroCm.{MicroCm}
use Rattle.sketch.specs.Sketch.{cells_of, key_cells}
use Rattle.sketch.specs.Refusals.{all_below, key_fits, refuse_unsound, read_verdict}
use Rattle.sketch.specs.Workers.{Judged, Readable}
use Rattle.sketch.specs.Acceptance.{sound_at}
use Rattle.sketch.specs.Named.{SmallestUnsound}
use Rattle.sketch.proofs.AuditLaws.{search_is}
use Rattle.sketch.proofs.NamedLaws.{some_bad, first_bad, Searched}
use Rattle.sketch.proofs.AddressLaws.{product_le}
use Rattle.sketch.proofs.KeyLaws.{KeyFrom, key_cells_below}
use Rattle.sketch.proofs.ReadingLaws.{key_read}
use Rattle.sketch.proofs.KeyCellLaws.{row_sound}
use Rattle.codes.specs.declared.Watch.{Watch}
use Rattle.codes.specs.Codes.{code_in, code_cells, watched_cells}
use Rattle.codes.specs.Named.{CodeCell}
use Rattle.codes.proofs.InLaws.{in_below}
use Rattle.codes.proofs.VerdictLaws.{GoodAsk, kept_fit_lem}
use Rattle.codes.proofs.CodeLaws.{code_rows, code_fits}
use Rattle.codes.proofs.CellLaws.{key_cell_in, key_cell_where, code_cell_in, code_cell_where, sound_judged, those_judged, FirstOfThose, those_named}

module _ (k : MicroCm) (w : Watch) (columns g : List ℕ) (room : ℕ) (good : GoodAsk k w columns g room) (long : length columns ≡ 8192) where
  pub codes_room : w.count * k.rows ≤ length columns
  codes_room = rw long (product_le w.count k.rows 64 128 good.few good.ready.rows_high)

  -- A CODE, as the asking reads it
  module _ (sound : Judged k g (watched_cells k columns w.count)) (i : ℕ) (h : i < w.count) where
    abbrev key : List ℕ
    key = code_in k.rows columns i

    fits : key_fits k key ≡ true
    fits = code_fits k columns w.count codes_room i h (kept_fit_lem k w columns good.fit (omega arith) good.few).1

    key_from : KeyFrom k 0 key
    unfolding key_fits
    key_from =
        record {
          low = (both_hold (eqb (length key) k.rows) (all_below k.cols key) fits).1;
          few = omega (arith, code_rows k columns w.count codes_room i h);
        }

    pub code_readable : Readable k key g
    code_readable =
        record {
          ready = good.ready;
          fits = fits;
          judged = sound_judged k g (key_cells k 0 key) (λ j e.
              those_judged k g (code_cells k columns w.count) (cells_of k) 0 sound j (omega arith)
              (omega (arith, in_below (cells_of k) j (key_cells k 0 key) (key_cells_below k 0 key key_from) e))
              (code_cell_in k columns w.count i j h e));
        }

    pub code_read : read_verdict k key g ≡ Accepted
    code_read = key_read k key g good.good fits code_readable.judged

-- THE CELL THAT 14 NAMES
module _ (k : MicroCm) (w : Watch) (columns g : List ℕ) (room : ℕ) (good : GoodAsk k w columns g room) (long : length columns ≡ 8192) where
  abbrev cells : List ℕ
  cells = watched_cells k columns w.count

  codes_smallest : some_bad k g cells ≡ true → SmallestUnsound (CodeCell k w columns) k g (first_bad k g cells)
  codes_smallest e =
      let roomy = codes_room k w columns g room good long in
      let told : refuse_unsound k g cells Accepted ≡ Unsound (first_bad k g cells) = search_is Unsound Accepted k g cells ∙ rw e refl in
      let it = those_named k g (code_cells k columns w.count) (cells_of k) 0 (first_bad k g cells) told in
      let of_code = code_cell_where k columns w.count (first_bad k g cells) it.listed in
      let in_row = key_cell_where k (code_in k.rows columns of_code.0) 0 (first_bad k g cells) of_code.2 in
      record {
        judged = record {
          code = of_code.0;
          watched = of_code.1;
          cell = record {
            row = in_row.0;
            inside = omega (arith, in_row.1, code_rows k columns w.count roomy of_code.0 of_code.1);
            is = in_row.2 ∙ rw zero-add refl;
          };
        };
        unsound = it.bad;
        smallest = λ i c bad. least i c bad it;
      }
    where
      least : (i : ℕ) → CodeCell k w columns i → sound_at k g i ≡ false
          → FirstOfThose k g (code_cells k columns w.count) 0 (0 + cells_of k) (first_bad k g cells) → first_bad k g cells ≤ i
      least i c bad it = by (ltb i (first_bad k g cells)) refl
        where
          by : (x : Bool) → ltb i (first_bad k g cells) ≡ x → first_bad k g cells ≤ i
          by true q =
              let key = code_in k.rows columns c.code in
              let rows = code_rows k columns w.count (codes_room k w columns g room good long) c.code c.watched in
              let mine = rw zero-add at (key_cell_in k key 0 c.cell.row (omega (arith, rows, c.cell.inside))) in
              let listed = code_cell_in k columns w.count c.code i c.watched (rw c.cell.is mine) in
              absurd (true≢false (sym (it.earlier i (omega arith) (ltb-true _ _ q) listed) ∙ bad))
          by false q = ltb-false _ _ q

  codes_clear : some_bad k g cells ≡ false → (i : ℕ) → CodeCell k w columns i → sound_at k g i ≡ true
  codes_clear e i c =
      let sound : Judged k g cells = search_is Unsound Accepted k g cells ∙ rw e refl in
      let read = code_readable k w columns g room good long sound c.code c.watched in
      rw c.cell.is (row_sound k g (code_in k.rows columns c.code) read c.cell.row c.cell.inside)

  pub codes_searched : Searched (CodeCell k w columns) k g cells
  codes_searched = record { found = codes_smallest; clear = codes_clear }
