-- Each call's verdict is that of its list of causes: a cascade is its list, unfolded, and 14 is one cause however many cells are judged. Assumes nothing.
use Prim.Native.Nat.{ℕ, suc, ◌≤◌, ◌<◌}
use mathlib.Core.Path.{◌≡◌, refl, sym, ap, ◌∙◌}
use mathlib.Core.Bool.{Bool, true, false, cond, ◌&&◌, true≢false}
use mathlib.Core.List.{List, [], ◌∷◌}
use native.Mathlib.Omega.{arith}
use lib.Dec.{leb}
use borrow.Author.Tests.{leb-true, le-leb, lt-leb}
use Rattle.refusal.specs.declared.Verdict.{Verdict}
use Rattle.refusal.specs.declared.Verdict.TheVariants.{Accepted, Refused, Unsound}
use Rattle.refusal.specs.Refusals.{number_of, is_accepted, when_accepted}
use Rattle.refusal.specs.Causes.{Cause, told, holds, refuse_by, first_of, paired, numbers_of, place_in, ranked_from}
use Rattle.refusal.proofs.CauseLaws.{told_refuses, first_append}
use Rattle.refusal.proofs.VerdictLaws.{accepted_is, refused_leaves}
use Rattle.sketch.specs.declared.MicroCm.{MicroCm}
use Rattle.clock.specs.Clock.{tick_of, advance_of}
use Rattle.sketch.specs.Sketch.{key_cells, all_cells}
use Rattle.sketch.specs.Refusals.{other_shape, other_frame, other_sub_window, bad_cells, refuse_unsound, judged_cells, sketch_verdict, lower_of, merge_verdict}
use Rattle.sketch.specs.Causes.{sketch_causes, merge_causes, SketchCalls}
use Rattle.sketch.proofs.AuditLaws.{search_is}

-- 14 IS ONE CAUSE
pub one_cause : (k : MicroCm) (g cells : List ℕ) (rest : Verdict) → refuse_unsound k g cells rest ≡ refuse_by (bad_cells k g cells) rest
one_cause k g cells rest = search_is Unsound rest k g cells

-- TWO SKETCHES: the lower of two verdicts is that of their causes side by side, where these rise alike
unfoldable rises_from : ℕ → List ℕ → Bool
rises_from r [] = true
rises_from r (k ∷ ks) = leb r k && rises_from (suc k) ks

rises_parts : (r k : ℕ) (ks : List ℕ) → rises_from r (k ∷ ks) ≡ true → (leb r k ≡ true) × (rises_from (suc k) ks ≡ true)
unfolding rises_from
rises_parts r k ks = by (leb r k) (rises_from (suc k) ks)
  where
    by : (a b : Bool) → a && b ≡ true → (a ≡ true) × (b ≡ true)
    by true b e = (refl, e)
    by false b e = absurd (true≢false (sym e))

-- a verdict of causes that rise from r on has no number below it
rises_told : (xs : List Cause) (r : ℕ) → rises_from r (numbers_of xs) ≡ true → is_accepted (first_of xs) ≡ false → r ≤ number_of (first_of xs)
unfolding first_of numbers_of
rises_told [] r o e = absurd (true≢false e)
rises_told (x ∷ xs) r o e = by (holds x) (rises_parts r (number_of (told x)) (numbers_of xs) o) e (rises_told xs (suc (number_of (told x))))
  where
    by : (h : Bool) → (leb r (number_of (told x)) ≡ true) × (rises_from (suc (number_of (told x))) (numbers_of xs) ≡ true)
        → is_accepted (cond h (told x) (first_of xs)) ≡ false
        → (rises_from (suc (number_of (told x))) (numbers_of xs) ≡ true → is_accepted (first_of xs) ≡ false → suc (number_of (told x)) ≤ number_of (first_of xs))
        → r ≤ number_of (cond h (told x) (first_of xs))
    by true parts e later = leb-true _ _ parts.0
    by false parts e later =
        let low : r ≤ number_of (told x) = leb-true _ _ parts.0 in
        omega (arith, later parts.1 e)

module _ (v v' : Verdict) where
  lower_first : is_accepted v ≡ false → (is_accepted v' ≡ false → number_of v ≤ number_of v') → lower_of v v' ≡ v
  lower_first n low = refused_leaves v v' _ n ∙ by (is_accepted v') refl
    where
      by : (a : Bool) → is_accepted v' ≡ a → when_accepted v' v (cond (leb (number_of v) (number_of v')) v v') ≡ v
      by true q = rw (accepted_is v' q) refl
      by false q = refused_leaves v' v _ q ∙ rw (le-leb _ _ (low q)) refl

  lower_second : is_accepted v' ≡ false → (is_accepted v ≡ false → number_of v' < number_of v) → lower_of v v' ≡ v'
  lower_second n high = by (is_accepted v) refl
    where
      by : (a : Bool) → is_accepted v ≡ a → lower_of v v' ≡ v'
      by true q = rw (accepted_is v q) refl
      by false q = refused_leaves v v' _ q ∙ refused_leaves v' v _ n ∙ rw (lt-leb _ _ (high q)) refl

lower_none : (v : Verdict) → lower_of v Accepted ≡ v
lower_none Accepted = refl
lower_none (Refused k) = refl
lower_none (Unsound j) = refl

lower_paired : (xs ys : List Cause) (r : ℕ) → rises_from r (numbers_of xs) ≡ true → numbers_of xs ≡ numbers_of ys
    → lower_of (first_of xs) (first_of ys) ≡ first_of (paired xs ys)
unfolding first_of numbers_of paired
lower_paired [] ys r o e = refl
lower_paired (x ∷ xs) [] r o e = lower_none (first_of (x ∷ xs))
lower_paired (x ∷ xs) (y ∷ ys) r o e =
    let n = number_of (told x) in
    let same : n ≡ number_of (told y) = cc in
    let tails : numbers_of xs ≡ numbers_of ys = cc in
    by (holds x) (holds y) same tails (rises_parts r n (numbers_of xs) o).1 (lower_paired xs ys (suc n) (rises_parts r n (numbers_of xs) o).1 tails)
  where
    by : (h h' : Bool) → number_of (told x) ≡ number_of (told y) → numbers_of xs ≡ numbers_of ys → rises_from (suc (number_of (told x))) (numbers_of xs) ≡ true
        → lower_of (first_of xs) (first_of ys) ≡ first_of (paired xs ys)
        → lower_of (cond h (told x) (first_of xs)) (cond h' (told y) (first_of ys)) ≡ cond h (told x) (cond h' (told y) (first_of (paired xs ys)))
    by true true same tails o later = lower_first (told x) (told y) (told_refuses x) (λ q. omega (arith, same))
    by true false same tails o later =
        lower_first (told x) (first_of ys) (told_refuses x) (λ q. omega (arith, rises_told ys (suc (number_of (told x))) (rw tails at o) q))
    by false true same tails o later =
        lower_second (first_of xs) (told y) (told_refuses y) (λ q. omega (arith, same, rises_told xs (suc (number_of (told x))) o q))
    by false false same tails o later = later

-- what a merge asks behind 1 to 6
module _ (k : MicroCm) (g : List ℕ) (k' : MicroCm) (g' : List ℕ) where
  abbrev others : List Cause
  others = other_shape k k' ∷ other_frame k k' ∷ other_sub_window k k' ∷ bad_cells k g (all_cells k) ∷ bad_cells k' g' (all_cells k') ∷ []

  abbrev otherwise : Verdict
  otherwise =
      refuse_by (other_shape k k')
      (refuse_by (other_frame k k') (refuse_by (other_sub_window k k') (refuse_unsound k g (all_cells k) (refuse_unsound k' g' (all_cells k') Accepted))))

  others_is : otherwise ≡ first_of others
  unfolding first_of
  others_is = rw (one_cause k g (all_cells k) (refuse_unsound k' g' (all_cells k') Accepted), one_cause k' g' (all_cells k') Accepted) refl

  either_is : lower_of (sketch_verdict k g) (sketch_verdict k' g') ≡ first_of (paired (sketch_causes k g) (sketch_causes k' g'))
  unfolding first_of numbers_of rises_from
  either_is = lower_paired (sketch_causes k g) (sketch_causes k' g') 0 refl refl

  merge_is : merge_verdict k g k' g' ≡ first_of (merge_causes k g k' g')
  merge_is =
      ap (λ (v : Verdict). when_accepted v otherwise v) either_is
      ∙ ap (λ (v : Verdict). when_accepted (first_of (paired (sketch_causes k g) (sketch_causes k' g'))) v
      (first_of (paired (sketch_causes k g) (sketch_causes k' g')))) others_is
      ∙ sym (first_append (paired (sketch_causes k g) (sketch_causes k' g')) others)

-- EVERY CALL
pub sketch_calls : SketchCalls
unfolding first_of numbers_of place_in ranked_from paired
sketch_calls = record {
  fresh = λ rows cols p clock seed g. record { is = refl; numbered = refl; ordered = refl };
  update = λ k key g. record { is = rw (one_cause k g (judged_cells k (tick_of k.clock) (key_cells k 0 key)) Accepted) refl; numbered = refl; ordered = refl };
  update_at =
      λ k key reading g. record {
        is = rw (one_cause k g (judged_cells k (advance_of k.clock reading) (key_cells k 0 key)) Accepted) refl;
        numbered = refl;
        ordered = refl;
      };
  advance = λ k reading g. record { is = rw (one_cause k g (judged_cells k (advance_of k.clock reading) []) Accepted) refl; numbered = refl; ordered = refl };
  read = λ k key g. record { is = rw (one_cause k g (key_cells k 0 key) Accepted) refl; numbered = refl; ordered = refl };
  read_with = λ k key fraction g. record { is = rw (one_cause k g (key_cells k 0 key) Accepted) refl; numbered = refl; ordered = refl };
  bucket = λ k row col g. record { is = refl; numbered = refl; ordered = refl };
  highest = λ k g. record { is = rw (one_cause k g (all_cells k) Accepted) refl; numbered = refl; ordered = refl };
  audit = λ k g. record { is = refl; numbered = refl; ordered = refl };
  merge = λ k g k' g'. record { is = merge_is k g k' g'; numbered = refl; ordered = refl };
}
