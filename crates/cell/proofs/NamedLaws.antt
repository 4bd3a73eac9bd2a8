-- 14 is the last cause of every call on a cell, so where it is told the cell is unsound, and where none is told it is sound. Assumes nothing.
use Prim.Native.Nat.{ℕ}
use mathlib.Core.Path.{◌≡◌, refl, sym, ap, ◌∙◌}
use mathlib.Core.Bool.{Bool, true, false, not, ◌&&◌}
use mathlib.Core.List.{List, [], ◌∷◌, ◌++◌}
use native.Mathlib.Omega.{arith}
use borrow.Author.Tests.{not-true, not-false}
use Rattle.refusal.specs.declared.Verdict.{Verdict}
use Rattle.refusal.specs.declared.Verdict.TheVariants.{Accepted, Unsound}
use Rattle.refusal.specs.Refusals.{number_of, index_of}
use Rattle.refusal.specs.Causes.{Cause, unsound, first_of, Told}
use Rattle.refusal.specs.Named.{Keeps, OfOne, SameAnswer}
use Rattle.refusal.proofs.VerdictLaws.{refused_never}
use Rattle.refusal.proofs.GateLaws.{both_accepted}
use Rattle.refusal.proofs.CauseLaws.{first_append, lowest_told}
use Rattle.refusal.proofs.NamedLaws.{none_is, told_behind, unsound_told, unsound_denied, two_cores}
use Rattle.rounding.specs.Refusals.{no_state}
use Rattle.cell.specs.declared.MicroParams.{MicroParams}
use Rattle.cell.specs.Cell.{sound_of}
use Rattle.cell.specs.Refusals.{bad_depth, bad_crossing, bad_cell, cell_verdict, zoom_call, shutter_call, pixel_call, insert_call, cross_call, merge_call}
use Rattle.cell.specs.Causes.{params_causes, cell_causes}
use Rattle.cell.specs.Named.{UnsoundCell, UnsoundOfTwo, JudgesCell, CellNames}
use Rattle.cell.proofs.CauseTheorems.{cell_calls}

-- ONE INDEX ALONE
one : (p : MicroParams) (b : List ℕ) → OfOne (UnsoundCell p b)
one p b i j e e' = e.0 ∙ sym e'.0

one_of_two : (p : MicroParams) (b src : List ℕ) → OfOne (UnsoundOfTwo p b src)
one_of_two p b src i j e e' = e.0 ∙ sym e'.0

module _ (p : MicroParams) (b : List ℕ) (xs : List Cause) where
  -- ONE CELL, behind causes that are not 14
  one_judges : none_is 14 xs ≡ true → (v : Verdict) (ns : List ℕ) → Told v ns (xs ++ bad_cell p b ∷ []) → JudgesCell p b (xs ++ bad_cell p b ∷ []) v
  unfolding none_is
  one_judges before v ns t =
      record {
        clear = λ e. not-false _ (unsound_denied xs 0 (not (sound_of p.t p.c b)) [] (sym t.is ∙ e)).1;
        keeps = kept;
        same = λ v' kept'. two_cores.same causes (UnsoundCell p b) (rw t.numbered t.ordered) (one p b) v v' kept kept';
      }
    where
      causes : List Cause
      causes = xs ++ bad_cell p b ∷ []

      kept : Keeps causes (UnsoundCell p b) v
      kept =
          record {
            lowest = lowest_told v ns causes t;
            names = λ e.
                let it = unsound_told xs 0 (not (sound_of p.t p.c b)) [] before refl (sym (ap number_of t.is) ∙ e) in
                (ap index_of t.is ∙ it.2, not-true _ it.1);
          }

  -- A MERGE'S TWO
  module _ (src : List ℕ) (v : Verdict) where
    abbrev causes : List Cause
    causes = xs ++ bad_cell p b ∷ bad_cell p src ∷ []

    two_keeps : none_is 14 xs ≡ true → (ns : List ℕ) → Told v ns causes → Keeps causes (UnsoundOfTwo p b src) v
    unfolding first_of
    two_keeps before ns t =
        record {
          lowest = lowest_told v ns causes t;
          names = λ e.
              let told : number_of (first_of causes) ≡ 14 = sym (ap number_of t.is) ∙ e in
              let past = told_behind 14 xs (bad_cell p b ∷ bad_cell p src ∷ []) before told in
              let it = by (sound_of p.t p.c b) (sound_of p.t p.c src) (sym (ap number_of past.1) ∙ told) in
              (ap index_of (t.is ∙ past.1) ∙ it.0, it.1);
        }
      where
        by : (s s' : Bool) → number_of (first_of (unsound 0 (not s) ∷ unsound 0 (not s') ∷ [])) ≡ 14
            → (index_of (first_of (unsound 0 (not s) ∷ unsound 0 (not s') ∷ [])) ≡ 0) × (s && s' ≡ false)
        by true true e = absurd (omega (arith, e))
        by true false e = (refl, refl)
        by false s' e = (refl, refl)

    two_alike : none_is 14 xs ≡ true → (ns : List ℕ) → Told v ns causes → (v' : Verdict) → Keeps causes (UnsoundOfTwo p b src) v' → SameAnswer v v'
    two_alike before ns t v' kept =
        two_cores.same causes (UnsoundOfTwo p b src) (rw t.numbered t.ordered) (one_of_two p b src) v v' (two_keeps before ns t) kept

    two_clear : v ≡ first_of causes → v ≡ Accepted → (sound_of p.t p.c b ≡ true) × (sound_of p.t p.c src ≡ true)
    unfolding first_of
    two_clear is e = by (sound_of p.t p.c b) (sound_of p.t p.c src) (both_accepted (first_of xs) _ (sym (first_append xs _) ∙ sym is ∙ e)).1
      where
        by : (s s' : Bool) → first_of (unsound 0 (not s) ∷ unsound 0 (not s') ∷ []) ≡ Accepted → (s ≡ true) × (s' ≡ true)
        by true true e = (refl, refl)
        by true false e = absurd (refused_never (Unsound 0) refl e)
        by false s' e = absurd (refused_never (Unsound 0) refl e)

-- what a merge asks before its cells
abbrev pair_causes : MicroParams → List ℕ → List ℕ → ℕ → List Cause
pair_causes p b src σ = params_causes p ++ no_state σ ∷ bad_depth p b ∷ bad_depth p src ∷ []

reads : (p : MicroParams) (b : List ℕ) → JudgesCell p b (cell_causes p b) (cell_verdict p b)
unfolding none_is
reads p b = one_judges p b (params_causes p ++ bad_depth p b ∷ []) refl _ _ (cell_calls.read p b)

pub cell_names : CellNames
unfolding none_is zoom_call shutter_call pixel_call insert_call cross_call merge_call
cell_names = record {
  judge = reads;
  zoom = reads;
  shutter = reads;
  pixel = λ p n b. reads p b;
  insert = λ p n b σ. one_judges p b (params_causes p ++ no_state σ ∷ bad_depth p b ∷ []) refl _ _ (cell_calls.insert p b σ);
  cross = λ p n crossed b σ.
      one_judges p b (params_causes p ++ no_state σ ∷ bad_depth p b ∷ bad_crossing p n crossed ∷ []) refl _ _ (cell_calls.cross p n crossed b σ);
  merge = λ p n b src σ. two_keeps p b (pair_causes p b src σ) src _ refl _ (cell_calls.merge p b src σ);
  merge_same = λ p n b src σ v kept. two_alike p b (pair_causes p b src σ) src _ refl _ (cell_calls.merge p b src σ) v kept;
  merge_clear = λ p n b src σ e. two_clear p b (pair_causes p b src σ) src _ (cell_calls.merge p b src σ).is e;
  one = one;
  one_of_two = one_of_two;
}
