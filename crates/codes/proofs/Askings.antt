-- What is kept is the codes of the latest setting with the flags of the asking before: so what an asking lists by them is what the calls alone say.
-- Assumes nothing.
use Prim.Native.Nat.{ℕ, ◌≤◌, ◌<◌}
use mathlib.Core.Path.{◌≡◌, refl, ap, ◌∙◌}
use mathlib.Core.Bool.{false}
use mathlib.Core.List.{List}
use native.Mathlib.Omega.{arith}
use lib.ListN.{length}
use Rattle.refusal.specs.declared.Verdict.{Verdict}
use Rattle.refusal.specs.declared.Verdict.TheVariants.{Accepted}
use Rattle.refusal.specs.Refusals.{is_accepted, when_accepted}
use Rattle.refusal.proofs.VerdictLaws.{refused_leaves}
use Rattle.sketch.specs.declared.MicroCm.{MicroCm}
use Rattle.sketch.specs.Figures.{over_of}
use Rattle.sketch.specs.Refusals.{read_call}
use Rattle.codes.specs.Codes.{code_in, newly, flag_at, reached_at, onto}
use Rattle.codes.specs.Refusals.{AskOutcome, ask_outcome, set_verdict, new_list, set_call, ask_verdict, listed_of, asked_of, ask_call}
use Rattle.codes.specs.Askings.{Call, setting, asking, Kept, none_kept, asked_at, after, run, last_set, codes_of, reached_by, was_reached, Listed, Askings}
use Rattle.codes.proofs.OntoLaws.{onto_taken, onto_dropped, onto_length, onto_at}
use Rattle.codes.proofs.NewlyLaws.{newly_few, newly_in, newly_ascending, newly_same}
use Rattle.codes.proofs.VerdictLaws.{GoodAsk, ask_accepted, kept_fit_lem}
use Rattle.codes.proofs.RunLaws.{Keeps, kept_code, asked_same, run_keeps}
use Rattle.codes.proofs.WatchedLaws.{code_read}

-- ACCEPTED
module _ (columns limits : List ℕ) (long : length columns ≡ 8192) (long-limits : length limits ≡ 64) (before : List Call) (k : MicroCm) (g list : List ℕ) where
  abbrev start : Kept
  start = none_kept columns limits

  abbrev s : Kept
  s = run start before

  keeps : Keeps s (last_set before) (was_reached start before)
  keeps = run_keeps columns limits long long-limits before

  module _ (e : ask_verdict k s.watch s.columns g (length list) ≡ Accepted) where
    good : GoodAsk k s.watch s.columns g (length list)
    good = (ask_accepted k s.watch s.columns g (length list) e).0

    -- the codes that are listed, told by the calls alone
    abbrev new : List ℕ
    new = newly (reached_by before k g) (was_reached start before) (codes_of before)

    new_is : listed_of k s.watch s.columns s.limits g ≡ new
    new_is =
        newly_same (reached_at k g s.columns s.limits) (reached_by before k g) (flag_at s.watch.reached) (was_reached start before) s.watch.count
        (asked_same s (last_set before) (was_reached start before) keeps k g list e) keeps.flags
        ∙ ap (newly (reached_by before k g) (was_reached start before)) keeps.count_is

    abbrev done : AskOutcome
    done = ask_outcome (record { verdict = Accepted; listed = length new; watch = asked_of k s.watch s.columns s.limits g }) (onto list new)

    asked_is : asked_at s k g list ≡ done
    unfolding ask_call
    asked_is =
        ap (λ (v : Verdict).
        ask_outcome
        (record {
          verdict = v;
          listed = when_accepted v (length (listed_of k s.watch s.columns s.limits g)) 0;
          watch = when_accepted v (asked_of k s.watch s.columns s.limits g) s.watch;
        })
        (when_accepted v (onto list (listed_of k s.watch s.columns s.limits g)) list)) e
        ∙ rw new_is refl

    new_room : length new ≤ length list
    new_room = omega (arith, newly_few (reached_by before k g) (was_reached start before) (codes_of before), keeps.count_is, good.roomy)

    read : (i : ℕ) → i < codes_of before
        → ((read_call k (code_in k.rows (last_set before).columns i) g).verdict ≡ Accepted)
        × ((read_call k (code_in k.rows (last_set before).columns i) g).over ≡ over_of k g (code_in k.rows (last_set before).columns i))
    unfolding read_call
    read i h =
        let inside : i < s.watch.count = omega (arith, keeps.count_is) in
        let same = (kept_fit_lem k s.watch s.columns good.fit (omega arith) good.few).0 in
        let judged = (ask_accepted k s.watch s.columns g (length list) e).1 in
        let accepted = code_read k s.watch s.columns g (length list) good keeps.columns_size judged i inside in
        let key = code_in k.rows (last_set before).columns i in
        let is = rw (kept_code s (last_set before) (was_reached start before) keeps k same i inside) at accepted in
        (is, ap (λ (v : Verdict). when_accepted v (over_of k g key) 0) is)

    done_listed : Listed start before k g list done
    done_listed =
        record {
          these = λ i. rw (onto_taken list new) (newly_in (reached_by before k g) (was_reached start before) (codes_of before) i);
          returned = rw (onto_length list new new_room) new_room;
          ascending = λ a b h l.
              rw (onto_at list new a (omega arith), onto_at list new b l)
              (newly_ascending (reached_by before k g) (was_reached start before) (codes_of before) a b h l);
          places = onto_length list new new_room;
          behind = onto_dropped list new;
          as_read = read;
        }

    accepted_listed : Listed start before k g list (asked_at s k g list)
    accepted_listed = rw asked_is done_listed

-- REFUSED
module _ (s : Kept) where
  set_left : (k : MicroCm) (columns limits : List ℕ) → is_accepted (set_verdict k columns (length limits)) ≡ false → after (setting k columns limits) s ≡ s
  unfolding after set_call
  set_left k columns limits n =
      let v = set_verdict k columns (length limits) in
      let List-left = refused_leaves v (new_list k (length limits)) s.watch n in
      let columns-left = refused_leaves v (onto s.columns columns) s.columns n in
      let limits-left = refused_leaves v (onto s.limits limits) s.limits n in
      rw (List-left, columns-left, limits-left) refl

  ask_left : (k : MicroCm) (g list : List ℕ) → is_accepted (asked_at s k g list).answer.verdict ≡ false
      → (after (asking k g list) s ≡ s) × ((asked_at s k g list).list ≡ list) × ((asked_at s k g list).answer.listed ≡ 0)
  unfolding after ask_call
  ask_left k g list n =
      let v = ask_verdict k s.watch s.columns g (length list) in
      let new = listed_of k s.watch s.columns s.limits g in (
        rw (refused_leaves v (asked_of k s.watch s.columns s.limits g) s.watch n) refl,
        refused_leaves v (onto list new) list n,
        refused_leaves v (length new) 0 n,
      )

pub askings : Askings
unfolding ask_call
askings = record {
  listed = λ columns limits long long-limits before k g list e. accepted_listed columns limits long long-limits before k g list e;
  left = λ s. record { set_refused = set_left s; ask_refused = ask_left s };
}
