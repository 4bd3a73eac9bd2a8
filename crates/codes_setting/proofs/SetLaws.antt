-- The ways through the setting of a list. Assumes nothing.
use Prim.Native.Nat.{ℕ, suc, ◌+◌, ◌*◌, ◌%◌, ◌≤◌, ◌<◌}
use mathlib.Core.Path.{◌≡◌, refl, sym, ap, ◌∙◌}
use mathlib.Core.Bool.{Bool, true, false, not}
use mathlib.Core.List.{List, ◌∷◌, ◌++◌, append_assoc}
use native.Mathlib.Omega.{arith}
use native.Mathlib.Nat.{mul-le-mul, mul-mod_left}
use lib.Dec.{eqb}
use lib.ListN.{length, take, drop, get_or, set, length-set}
use lib.Seq.{drop-cons, take-suc, set_at, length-take-le}
use native.Mathlib.Numerals.{add-one}
use borrow.Author.Tests.{ne_eqb}
use Rattle.refusal.specs.declared.Verdict.{Verdict}
use Rattle.refusal.specs.declared.Verdict.TheVariants.{Accepted}
use Rattle.refusal.specs.Refusals.{is_accepted}
use Rattle.refusal.proofs.VerdictLaws.{refused_leaves, turned_back_lem, let_pass}
use Rattle.refusal.proofs.GateLaws.{gate_passed}
use Rattle.sketch.specs.declared.MicroCm.{MicroCm}
use Rattle.sketch.specs.Refusals.{all_below, numbers_verdict}
use Rattle.sketch.proofs.SettingsLaws.{good_settings}
use Rattle.sketch.proofs.SketchGates.{settings_of, settings_gate}
use Rattle.codes.specs.declared.Watch.{Watch}
use Rattle.codes.specs.Codes.{onto}
use Rattle.codes.specs.Refusals.{codes_fit, set_verdict, new_list, set_outcome, set_call}
use Rattle.codes.proofs.VerdictLaws.{GoodSet, set_accepted}

-- THE COPIES: before i what is given, from i on what stood there
pub record Copying {A : Type 0} (from b₀ b : List A) (i : ℕ) : Type 0 where
  pub done : b ≡ take i from ++ drop i b₀
  pub same : length b ≡ length b₀

module _ {A : Type 0} (from b₀ b : List A) (i : ℕ) (w : Copying from b₀ b i) where
  pub copying_on : length from ≡ length b₀ → i < length b₀ → (x : A) → x ≡ get_or from i x → Copying from b₀ (set b i x) (i + 1)
  copying_on whole h x e =
      let c : i < length from = omega arith in
      let q : length (take i from) ≡ i = length-take-le i from (omega arith) in
      record {
        done =
            rw (w.done, drop-cons b₀ i x h, set_at (take i from) (get_or b₀ i x) (drop (suc i) b₀) x i q, add-one i, take-suc from i x c, append_assoc)
            (ap (λ (y : A). take i from ++ (y ∷ drop (suc i) b₀)) e);
        same = length-set b i x ∙ w.same;
      }

-- ONE COLUMN A ROW for each code
pub even_not : (size count rows : ℕ) → (size % rows ≡ 0 → ⊥) → eqb (size % rows) 0 ≡ eqb size (count * rows)
even_not size count rows h = ne_eqb _ _ h ∙ sym (ne_eqb size (count * rows) (λ e. h (rw e (mul-mod_left count rows))))

module _ (k : MicroCm) (columns : List ℕ) (count : ℕ) where
  module _ (ok : Bool) (eo : ok ≡ eqb (length columns) (count * k.rows)) where
    pub fit_uneven : ok ≡ false → ok ≡ codes_fit k columns count
    unfolding codes_fit
    fit_uneven h = h ∙ rw (← eo, h) refl

    pub fit_below : ok ≡ true → (low : Bool) → low ≡ all_below k.cols columns → low ≡ codes_fit k columns count
    unfolding codes_fit
    fit_below h low el = rw (← eo, h) el

  -- THE VERDICT
  module _ (v : Verdict) (ev : v ≡ numbers_verdict k) (ok : Bool) (asked : ok ≡ is_accepted v) where
    module _ (a : not ok ≡ false) where
      pub some_rows : 0 < k.rows
      some_rows =
          let e : numbers_verdict k ≡ Accepted = sym ev ∙ let_pass v ok asked a in
          let s = good_settings k.rows k.cols k.params k.clock (gate_passed (settings_of k) (settings_gate k) _ e).0 in
          omega (arith, s.grid.rows_low)

-- THE ANSWER
module _ (k : MicroCm) (w : Watch) (columns limits kept kept-limits : List ℕ)
    (v : Verdict) (ev : v ≡ set_verdict k columns (length limits)) (ok : Bool) (asked : ok ≡ is_accepted v) where
  pub set_refused : not ok ≡ true → set_outcome (record { verdict = v; watch = w }) kept kept-limits ≡ set_call k w columns limits kept kept-limits
  unfolding set_call
  set_refused h =
      let n = turned_back_lem v ok asked h in
      let List-left = refused_leaves v (new_list k (length limits)) w n in
      let columns-left = refused_leaves v (onto kept columns) kept n in
      let limits-left = refused_leaves v (onto kept-limits limits) kept-limits n in
      rw (← ev, List-left, columns-left, limits-left) refl

  module _ (h : not ok ≡ false) where
    good : GoodSet k columns (length limits)
    good = set_accepted k columns (length limits) (sym ev ∙ let_pass v ok asked h)

    pub columns_room : length columns ≤ 8192
    columns_room = rw good.whole (mul-le-mul good.few good.settings.grid.rows_high)

    pub set_done : (y z : List ℕ) → y ≡ columns → z ≡ limits
        → set_outcome (record { verdict = v; watch = new_list k (length limits) }) (y ++ drop (length columns) kept) (z ++ drop (length limits) kept-limits)
        ≡ set_call k w columns limits kept kept-limits
    unfolding set_call
    set_done y z ey ez = rw (← ev, let_pass v ok asked h, ey, ez) refl
