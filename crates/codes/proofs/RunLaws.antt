-- What is kept begins with the list of the latest accepted setting, and its flags say what the asking before found: an accepted call makes it so
-- anew, and a refused one leaves it. Assumes nothing.
use Prim.Native.Nat.{ℕ, ◌+◌, ◌*◌, ◌≤◌, ◌<◌}
use mathlib.Core.Path.{◌≡◌, refl, sym, ap, ◌∙◌}
use mathlib.Core.Bool.{Bool, false}
use mathlib.Core.List.{List, [], ◌∷◌}
use native.Mathlib.Omega.{arith}
use native.Mathlib.Nat.{zero-div}
use lib.ListN.{length, get_or}
use Rattle.refusal.specs.declared.Verdict.{Verdict}
use Rattle.refusal.specs.declared.Verdict.TheVariants.{Accepted, Refused, Unsound}
use Rattle.refusal.specs.Refusals.{when_accepted}
use Rattle.sketch.specs.declared.MicroCm.{MicroCm}
use Rattle.sketch.proofs.AddressLaws.{product_le}
use Rattle.codes.specs.Codes.{code_in, reached_at, flag_at, onto}
use Rattle.codes.specs.Refusals.{set_verdict, new_list, set_call, ask_verdict, asked_of, ask_call}
use Rattle.codes.specs.Askings.{Call, setting, asking, Kept, none_kept, after, run, CodeList, last_set, was_reached}
use Rattle.codes.proofs.FlagLaws.{flag_of}
use Rattle.codes.proofs.OntoLaws.{onto_length, onto_at, onto_part, onto_again}
use Rattle.codes.proofs.VerdictLaws.{set_accepted, ask_accepted, kept_fit_lem}
use Rattle.codes.proofs.CodeLaws.{code_inside}

-- WHAT IS KEPT, beside the list that was set and what was found at the asking before
pub record Keeps (s : Kept) (c : CodeList) (was : ℕ → Bool) : Type 0 where
  pub count_is : s.watch.count ≡ length c.limits
  pub few : s.watch.count ≤ 64
  pub whole : length c.columns ≡ s.watch.count * s.watch.rows
  pub columns_begin : s.columns ≡ onto s.columns c.columns
  pub limits_begin : s.limits ≡ onto s.limits c.limits
  pub columns_size : length s.columns ≡ 8192
  pub limits_size : length s.limits ≡ 64
  pub flags : (i : ℕ) → i < s.watch.count → flag_at s.watch.reached i ≡ was i

module _ (s : Kept) (c : CodeList) (was : ℕ → Bool) (w : Keeps s c was) where
  -- a code of what is kept is that code of the list
  module _ (k : MicroCm) (same : s.watch.rows ≡ k.rows) (i : ℕ) (h : i < s.watch.count) where
    pub kept_code : code_in k.rows s.columns i ≡ code_in k.rows c.columns i
    kept_code =
        let inside : i * k.rows + k.rows ≤ length c.columns = rw (w.whole, same) (code_inside k.rows s.watch.count i h) in
        ap (λ (l : List ℕ). code_in k.rows l i) w.columns_begin ∙ onto_part s.columns c.columns (i * k.rows) k.rows inside

    kept_limit : get_or s.limits i 0 ≡ get_or c.limits i 0
    kept_limit = ap (λ (l : List ℕ). get_or l i 0) w.limits_begin ∙ onto_at s.limits c.limits i (omega (arith, w.count_is))

    pub kept_reached : (g : List ℕ) → reached_at k g s.columns s.limits i ≡ reached_at k g c.columns c.limits i
    unfolding reached_at
    kept_reached g = rw (kept_limit, kept_code) refl

  -- A SETTING
  module _ (k : MicroCm) (columns limits : List ℕ) where
    flag_none : (i : ℕ) → flag_at 0 i ≡ false
    flag_none i = rw zero-div refl

    set_keeps : (v : Verdict) → v ≡ set_verdict k columns (length limits)
        → Keeps
        (record {
          watch = when_accepted v (new_list k (length limits)) s.watch;
          columns = when_accepted v (onto s.columns columns) s.columns;
          limits = when_accepted v (onto s.limits limits) s.limits;
        })
        (when_accepted v (record { columns = columns; limits = limits }) c) (λ i. when_accepted v false (was i))
    set_keeps Accepted e =
        let good = set_accepted k columns (length limits) (sym e) in
        let room : length columns ≤ 8192 = rw good.whole (product_le (length limits) k.rows 64 128 good.few good.settings.grid.rows_high) in
        record {
          count_is = refl;
          few = good.few;
          whole = good.whole;
          columns_begin = sym (onto_again s.columns columns);
          limits_begin = sym (onto_again s.limits limits);
          columns_size = onto_length s.columns columns (omega (arith, w.columns_size)) ∙ w.columns_size;
          limits_size = onto_length s.limits limits (omega (arith, good.few, w.limits_size)) ∙ w.limits_size;
          flags = λ i h. flag_none i;
        }
    set_keeps (Refused n) e = w
    set_keeps (Unsound j) e = w

  -- AN ASKING
  module _ (k : MicroCm) (g list : List ℕ) where
    pub asked_same : ask_verdict k s.watch s.columns g (length list) ≡ Accepted → (i : ℕ) → i < s.watch.count
        → reached_at k g s.columns s.limits i ≡ reached_at k g c.columns c.limits i
    asked_same e i h =
        let good = (ask_accepted k s.watch s.columns g (length list) e).0 in
        kept_reached k (kept_fit_lem k s.watch s.columns good.fit (omega arith) good.few).0 i h g

    ask_keeps : (v : Verdict) → v ≡ ask_verdict k s.watch s.columns g (length list)
        → Keeps (record { watch = when_accepted v (asked_of k s.watch s.columns s.limits g) s.watch; columns = s.columns; limits = s.limits })
        c (λ i. when_accepted v (reached_at k g c.columns c.limits i) (was i))
    ask_keeps Accepted e =
        record {
          count_is = w.count_is;
          few = w.few;
          whole = w.whole;
          columns_begin = w.columns_begin;
          limits_begin = w.limits_begin;
          columns_size = w.columns_size;
          limits_size = w.limits_size;
          flags = λ i h. flag_of (reached_at k g s.columns s.limits) s.watch.count i h ∙ asked_same (sym e) i h;
        }
    ask_keeps (Refused n) e = w
    ask_keeps (Unsound j) e = w

-- ANY LIST OF CALLS, from any memory of the sizes that are lent
module _ (columns limits : List ℕ) (long : length columns ≡ 8192) (long-limits : length limits ≡ 64) where
  abbrev start : Kept
  start = none_kept columns limits

  pub run_keeps : (before : List Call) → Keeps (run start before) (last_set before) (was_reached start before)
  unfolding run after last_set was_reached set_call ask_call
  run_keeps [] =
      record {
        count_is = refl;
        few = omega arith;
        whole = refl;
        columns_begin = refl;
        limits_begin = refl;
        columns_size = long;
        limits_size = long-limits;
        flags = λ i h. absurd (omega arith);
      }
  run_keeps (setting k new new-limits ∷ before) =
      set_keeps (run start before) (last_set before) (was_reached start before) (run_keeps before) k new new-limits (set_verdict k new (length new-limits)) refl
  run_keeps (asking k g list ∷ before) =
      ask_keeps (run start before) (last_set before) (was_reached start before) (run_keeps before) k g list
      (ask_verdict k (run start before).watch (run start before).columns g (length list)) refl
