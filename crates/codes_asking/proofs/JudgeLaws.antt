-- The ways through the judges of an asking: each way out is the cause that holds first. Assumes nothing.
use Prim.Native.Nat.{ℕ, ◌+◌, ◌*◌, ◌≤◌, ◌<◌, min}
use mathlib.Core.Path.{◌≡◌, refl, sym, ◌∙◌}
use mathlib.Core.Bool.{Bool, true, false, not, cond, ◌&&◌, ◌||◌, true≢false}
use mathlib.Core.List.{List}
use native.Mathlib.Omega.{arith}
use native.Mathlib.Numerals.{add-one}
use native.Mathlib.Nat.{zero-mul, add-sub_cancel_left}
use lib.Dec.{ltb, eqb}
use lib.ListN.{length, take}
use borrow.Author.Tests.{lt-ltb, le-ltb, eq-eqb, ne_eqb, eqb-true, not-false}
use Rattle.refusal.specs.declared.Verdict.{Verdict}
use Rattle.refusal.specs.declared.Verdict.TheVariants.{Accepted, Unsound}
use Rattle.refusal.specs.Refusals.{is_accepted, index_of}
use Rattle.refusal.proofs.VerdictLaws.{refused_leaves, turned_back_lem, let_pass}
use Rattle.refusal.proofs.GateLaws.{gate_open}
use Rattle.sketch.specs.declared.MicroCm.{MicroCm}
use Rattle.sketch.specs.Sketch.{cells_of, key_cells}
use Rattle.sketch.specs.Audit.{first_unsound}
use Rattle.sketch.specs.Refusals.{all_below, refuse_sketch, refuse_unsound, sketch_verdict}
use Rattle.sketch.specs.Workers.{Ready}
use Rattle.sketch.proofs.AddressLaws.{product_le}
use Rattle.sketch.proofs.SketchGates.{sketch_gate}
use Rattle.sketch.proofs.ReadyLaws.{ready_of}
use Rattle.codes.specs.declared.Watch.{Watch}
use Rattle.codes.specs.Codes.{code_in, onto}
use Rattle.codes.specs.Refusals.{kept_fit, ask_verdict, listed_of, asked_of, ask_outcome, ask_call}
use Rattle.codes.proofs.VerdictLaws.{ask_accepted}
use Rattle.codes.proofs.CodeLaws.{code_inside, code_fits}
use Rattle.codes.proofs.WatchedLaws.{code_readable}
use Rattle.codes_asking.specs.declared.pass.Found.{Found}
use Rattle.codes_asking.specs.Workers.{Held, Placed, lent_code, bad_in, least_bad, Room, Told}
use Rattle.codes_asking.proofs.BadLaws.{first_named, cells_told}

-- THE KEPT COLUMNS
module _ (k : MicroCm) (w : Watch) (columns : List ℕ) where
  pub fit_none : w.count ≡ 0 → true ≡ kept_fit k w columns
  unfolding kept_fit
  fit_none e = rw (eq-eqb w.count 0 e) refl

  module _ (some : w.count ≡ 0 → ⊥) where
    pub fit_rows : (w.rows ≡ k.rows → ⊥) → false ≡ kept_fit k w columns
    unfolding kept_fit
    fit_rows e = rw (ne_eqb w.count 0 some, ne_eqb w.rows k.rows e) refl

    pub fit_columns : (m : ℕ) (low : Bool) → m ≡ min w.count 64 → w.rows ≡ k.rows → low ≡ all_below k.cols (take (m * k.rows) columns)
        → low ≡ kept_fit k w columns
    unfolding kept_fit
    fit_columns m low em e el = el ∙ rw (em, ne_eqb w.count 0 some, eq-eqb w.rows k.rows e) refl

  kept_below : w.count ≤ 64 → kept_fit k w columns ≡ true → all_below k.cols (take (w.count * k.rows) columns) ≡ true
  unfolding kept_fit all_below
  kept_below few e = by (eqb w.count 0) refl (eqb w.rows k.rows) e
    where
      by : (none : Bool) → eqb w.count 0 ≡ none → (same : Bool) → none || (same && all_below k.cols (take (min w.count 64 * k.rows) columns)) ≡ true
          → all_below k.cols (take (w.count * k.rows) columns) ≡ true
      by true q same e = rw (eqb-true w.count 0 q, zero-mul k.rows) refl
      by false q true e =
          let m : min w.count 64 ≡ w.count = omega arith in
          rw m at e
      by false q false e = absurd (true≢false (sym e))

-- A CODE'S COLUMNS, as they are lent
module _ (k : MicroCm) (columns g : List ℕ) where
  -- each code of those that are held
  pub placed_of : (count code : ℕ) → Held k columns g count → code < count → Placed k columns g code
  placed_of count code w h =
      let all : count * k.rows ≤ 64 * 128 = product_le count k.rows 64 128 w.few w.ready.rows_high in
      let room : count * k.rows ≤ length columns = omega (arith, w.long) in
      record {
        ready = w.ready;
        room = omega (arith, code_inside k.rows count code h);
        long = w.long;
        fits = code_fits k columns count room code h w.below;
      }

  module _ (code : ℕ) (w : Placed k columns g code) where
    module _ (v : Verdict) (ev : v ≡ first_unsound Unsound Accepted k g (key_cells k 0 (lent_code k columns code)))
        (ok : Bool) (asked : ok ≡ is_accepted v) where
      same : v ≡ refuse_unsound k g (key_cells k 0 (code_in k.rows columns code)) Accepted
      same = ev ∙ rw add-sub_cancel_left

      named : bad_in k columns g code ≡ cond (is_accepted v) (cells_of k) (index_of v)
      named = first_named k g (cells_of k) (key_cells k 0 (code_in k.rows columns code)) ∙ rw (← same) refl

      pub bad_none : ok ≡ true → k.rows * k.cols ≡ bad_in k columns g code
      bad_none t = sym (named ∙ rw (← asked, t) refl)

      pub bad_named : ok ≡ false → (j : ℕ) → j ≡ index_of v → j ≡ bad_in k columns g code
      bad_named t j e = e ∙ sym (named ∙ rw (← asked, t) refl)

  -- ALL THE CODES
  pub searching_on : (least code bad : ℕ) → least ≡ least_bad k columns g code → bad ≡ bad_in k columns g code
      → min least bad ≡ least_bad k columns g (code + 1)
  unfolding least_bad
  searching_on least code bad s eb = rw (s, eb, add-one) refl

  pub searching_begin : cells_of k ≡ least_bad k columns g 0
  unfolding least_bad
  searching_begin = refl

-- A SKETCH that was let pass, and codes that go with it
pub held_below : (k : MicroCm) (w : Watch) (columns : List ℕ) (fits : Bool) → fits ≡ kept_fit k w columns → not fits ≡ false → w.count ≤ 64
    → all_below k.cols (take (w.count * k.rows) columns) ≡ true
held_below k w columns fits ef b few = kept_below k w columns few (sym ef ∙ not-false fits b)

module _ (k : MicroCm) (g : List ℕ) (v : Verdict) (ev : v ≡ sketch_verdict k g) (ok : Bool) (asked : ok ≡ is_accepted v) (a : not ok ≡ false) where
  let_pass_sketch : sketch_verdict k g ≡ Accepted
  let_pass_sketch = sym ev ∙ let_pass v ok asked a

  pub ask_ready : Ready k (length g)
  ask_ready = ready_of k g let_pass_sketch

  pub ask_rows : k.rows ≤ 128
  ask_rows = ask_ready.rows_high

  ask_held : (w : Watch) (columns : List ℕ) (fits : Bool) → fits ≡ kept_fit k w columns → not fits ≡ false → w.count ≤ 64 → length columns ≡ 8192
      → Held k columns g w.count
  ask_held w columns fits ef b few long = record { ready = ask_ready; few = few; long = long; below = held_below k w columns fits ef b few }

-- THE VERDICT
module _ (k : MicroCm) (w : Watch) (columns g : List ℕ) (room : ℕ) (v : Verdict) (ev : v ≡ sketch_verdict k g) (ok : Bool) (asked : ok ≡ is_accepted v) where
  module _ (a : not ok ≡ false) (fits : Bool) (ef : fits ≡ kept_fit k w columns) where
    past : (rest : Verdict) → refuse_sketch k g rest ≡ rest
    past rest = gate_open (refuse_sketch k g) (sketch_gate k g) rest (let_pass_sketch k g v ev ok asked a)

    module _ (b : not fits ≡ false) (few : w.count ≤ 64) (enough : w.count ≤ room) (long : length columns ≡ 8192) (bad : ℕ) (eb : bad ≡ least_bad k columns g w.count) where
      told : ask_verdict k w columns g room ≡ cond (ltb bad (cells_of k)) (Unsound bad) Accepted
      told =
          let held = ask_held k g v ev ok asked a w columns fits ef b few long in
          past _
          ∙ rw (← ef, not-false fits b, le-ltb 64 w.count few, le-ltb room w.count enough, eb)
          (cells_told k g columns w.count (λ i h. (placed_of k columns g w.count i held h).fits))

      pub ask_unsound : bad < k.rows * k.cols → Unsound bad ≡ ask_verdict k w columns g room
      ask_unsound h = sym (told ∙ rw (lt-ltb bad (cells_of k) h) refl)

      pub ask_let_pass : k.rows * k.cols ≤ bad → Accepted ≡ ask_verdict k w columns g room
      ask_let_pass h = sym (told ∙ rw (le-ltb bad (cells_of k) h) refl)

-- THE ANSWER
module _ (k : MicroCm) (w : Watch) (columns limits g list : List ℕ)
    (v : Verdict) (ev : v ≡ ask_verdict k w columns g (length list)) (ok : Bool) (asked : ok ≡ is_accepted v) where
  pub ask_refused : not ok ≡ true → ask_outcome (record { verdict = v; listed = 0; watch = w }) list ≡ ask_call k w columns limits g list
  unfolding ask_call
  ask_refused h =
      let n = turned_back_lem v ok asked h in
      let listed = listed_of k w columns limits g in
      rw (← ev, refused_leaves v (length listed) 0 n, refused_leaves v (asked_of k w columns limits g) w n, refused_leaves v (onto list listed) list n) refl

  module _ (h : not ok ≡ false) where
    pub pass_room : length columns ≡ 8192 → length limits ≡ 64 → Room k w.count columns limits g list
    pass_room long limited =
        let a = ask_accepted k w columns g (length list) (sym ev ∙ let_pass v ok asked h) in
        record {
          few = a.0.few;
          long = long;
          limited = limited;
          readable = λ code l. code_readable k w columns g (length list) a.0 long a.1 code l;
          room = a.0.roomy;
        }

    pub ask_done : (r : Found) (list' : List ℕ) → Told k w.count columns limits w.reached g list list' r
        → ask_outcome (record { verdict = v; listed = r.listed; watch = record { count = w.count; rows = w.rows; reached = r.reached } }) list'
        ≡ ask_call k w columns limits g list
    unfolding ask_call
    ask_done r list' t = rw (← ev, let_pass v ok asked h, t.listed_is, t.reached_is, t.list_is) refl
