-- WHAT IS LOST: crediting drops its unit in one of the cases of its definition, and every step above it passes that on. Assumes nothing.
use Prim.Native.Nat.{ℕ, ◌+◌, ◌^◌, ◌≤◌, ◌<◌}
use mathlib.Core.Path.{◌≡◌, refl, sym, ◌∙◌}
use mathlib.Core.Bool.{Bool, true, false, ◌&&◌}
use mathlib.Core.List.{List}
use lib.Dec.{leb, ltb, eqb}
use lib.ListN.{length}
use native.Mathlib.Omega.{arith}
use native.Mathlib.Decide.{dec_lt}
use native.Mathlib.Nat.{mul_comm, one-mul, pow-zero, pow-suc, one-le-pow, pow-le-pow_right, zero-div, zero-mod, eq_of_mul-eq-mul_right}
use borrow.Author.Tests.{le-leb, lt-leb, leb-true, leb-false, lt-ltb, ltb-true, ltb-false, le-ltb, eqb-true, eqb-false}
use Rattle.laws.specs.Steps.{Step, still, leaving, later, made}
use Rattle.laws.proofs.ChoiceLaws.{either}
use Rattle.refusal.specs.declared.Verdict.{Verdict}
use Rattle.refusal.specs.declared.Verdict.TheVariants.{Accepted}
use Rattle.refusal.specs.Refusals.{is_accepted}
use Rattle.refusal.proofs.VerdictLaws.{refused_leaves}
use Rattle.rounding.specs.declared.Divided.{Divided}
use Rattle.rounding.specs.Draws.{rounded_div}
use Rattle.rounding.proofs.DivisionLaws.{whole_case}
use Rattle.cell.specs.declared.MicroParams.{MicroParams}
use Rattle.cell.specs.Cell.{pixels_of, slot_of, pixel_of, zoom_of, shutter_of, unit_of, with_shutter, max_zoom, total_of}
use Rattle.cell.specs.Insertion.{credit_of, insert_of}
use Rattle.cell.specs.Crossing.{close_of, clear_of, emptied, ended_of, begin_of, inside_of, zoom_in_of, cross_of}
use Rattle.cell.specs.Merge.{merge_of}
use Rattle.cell.specs.Refusals.{cell_call, insert_verdict, insert_call, cross_verdict, cross_call, merge_verdict, merge_call}
use Rattle.cell.specs.Lost.{no_room, loses_item, loses_closing, one_if, Balances, LostMeaning}
use Rattle.cell.specs.Workers.{Fit}
use Rattle.cell.proofs.CellLaws.{slot_inside, with_shutter_shutter, with_shutter_pixel, with_shutter_zoom, with_shutter_kept}
use Rattle.cell.proofs.PowerLaws.{max_zoom_limit, zoom_below}
use Rattle.cell.proofs.JudgingLaws.{accepted_fit}
use Rattle.cell.proofs.InsertionLaws.{credit_gained, credit_out, credit_drops, zoom_out_lost, credited, inserted}
use Rattle.cell.proofs.CrossingLaws.{inside_quiet, zoom_in_leaves, cross_lost_below}
use Rattle.cell.proofs.NamedLaws.{cell_names}
use Rattle.cell.proofs.TotalLaws.{insert_balance}
use Rattle.cell.proofs.MergeLaws.{merge_loses}

never : (a b : Bool) → one_if (a && (b && false)) ≡ 0
never true true = refl
never true false = refl
never false b = refl

-- CREDIT
credit_lost : (t c slot : ℕ) (b : List ℕ) (σ : ℕ) → (credit_of t c slot b σ).lost ≡ one_if (no_room t c slot b)
credit_lost t c slot b σ = by (dec_lt (pixel_of b slot) 255) (dec_lt (zoom_of t b) (max_zoom c))
  where
    by : Dec (pixel_of b slot < 255) → Dec (zoom_of t b < max_zoom c) → (credit_of t c slot b σ).lost ≡ one_if (no_room t c slot b)
    by (yes low) z = rw (← credit_gained t c slot b σ low) (simp (lt-leb _ _ low))
    by (no full) (yes z) =
        let f : 255 ≤ pixel_of b slot = omega arith in
        rw (credit_out t c slot b σ f z) (zoom_out_lost t c slot b σ ∙ simp (le-leb _ _ f, lt-leb _ _ z))
    by (no full) (no top) =
        let f : 255 ≤ pixel_of b slot = omega arith in
        let z : max_zoom c ≤ zoom_of t b = omega arith in
        rw (credit_drops t c slot b σ f z) (simp (le-leb _ _ f, le-leb _ _ z))

-- with the shutter written there is as little room
shut_lost : (t c slot : ℕ) (b : List ℕ) (σ : ℕ) → Fit t c (length b) → slot < pixels_of t
    → (credit_of t c slot (with_shutter t 0 b) σ).lost ≡ one_if (no_room t c slot b)
shut_lost t c slot b σ fit inside =
    credit_lost t c slot (with_shutter t 0 b) σ
    ∙ rw (with_shutter_pixel t 0 b fit.size_is slot inside, with_shutter_zoom t 0 b fit.size_is) refl

-- INSERTION
pub insert_lost : (t c n : ℕ) (b : List ℕ) (σ : ℕ) → Fit t c (length b) → (insert_of t c n b σ).lost ≡ one_if (loses_item t c n b)
unfolding insert_of
insert_lost t c n b σ fit =
    either (λ (s : Step). s.lost ≡ one_if (loses_item t c n b)) (ltb (shutter_of t b + 1) (unit_of t c b)) (still (with_shutter t (shutter_of t b + 1) b) σ)
    (credit_of t c (slot_of t n) (with_shutter t 0 b) σ)
    (λ e. let l : shutter_of t b + 1 < unit_of t c b = ltb-true _ _ e in simp (lt-leb _ _ l))
    (λ e. let l : unit_of t c b ≤ shutter_of t b + 1 = ltb-false _ _ e in
    shut_lost t c (slot_of t n) b σ fit (slot_inside t n) ∙ simp (le-leb _ _ l))

-- CROSSING
close_lost : (t c slot : ℕ) (b : List ℕ) (σ : ℕ) → Fit t c (length b) → slot < pixels_of t
    → (close_of t c slot b σ).lost ≡ one_if (ltb 0 (rounded_div (shutter_of t b) (unit_of t c b) σ).value && no_room t c slot b)
unfolding close_of
close_lost t c slot b σ fit inside =
    let d : Divided = rounded_div (shutter_of t b) (unit_of t c b) σ in
    either (λ (s : Step). s.lost ≡ one_if (ltb 0 d.value && no_room t c slot b)) (eqb d.value 0) (made (with_shutter t 0 b) d.state d.draws 0)
    (later d.draws (credit_of t c slot (with_shutter t 0 b) d.state))
    (λ e. rw (eqb-true d.value 0 e) refl)
    (λ e. let ne = eqb-false d.value 0 e in
    let some : 0 < d.value = omega arith in
    shut_lost t c slot b d.state fit inside ∙ simp (lt-ltb _ _ some))

module _ (t c n crossed : ℕ) (b : List ℕ) (σ : ℕ) (fit : Fit t c (length b)) where
  abbrev ended : ℕ
  ended = slot_of t (ended_of n crossed)

  abbrev closes : Bool
  closes = ltb 0 (rounded_div (shutter_of t b) (unit_of t c b) σ).value && no_room t c ended b

  inside_lost : (inside_of t c n crossed b σ).lost ≡ one_if (ltb crossed (pixels_of t) && closes)
  unfolding inside_of
  inside_lost =
      let shut = close_of t c ended b σ in
      either (λ (s : Step). s.lost ≡ one_if (ltb crossed (pixels_of t) && closes)) (leb (pixels_of t) crossed) (still (emptied t b) σ)
      (leaving shut (clear_of t crossed (begin_of n crossed) shut.bytes))
      (λ e. let far : pixels_of t ≤ crossed = leb-true _ _ e in simp (le-ltb _ _ far))
      (λ e. let near : crossed < pixels_of t = leb-false _ _ e in
      close_lost t c ended b σ fit (slot_inside t (ended_of n crossed)) ∙ simp (lt-ltb _ _ near))

  pub cross_lost : (cross_of t c n crossed b σ).lost ≡ one_if (loses_closing t c n crossed b σ)
  unfolding cross_of
  cross_lost =
      let inside = inside_of t c n crossed b σ in
      either (λ (s : Step). s.lost ≡ one_if (loses_closing t c n crossed b σ)) (eqb crossed 0) (still b σ) (leaving inside (zoom_in_of t c inside.bytes))
      (λ e. rw (eqb-true crossed 0 e) refl)
      (λ e. let ne = eqb-false crossed 0 e in
      let some : 0 < crossed = omega arith in
      inside_lost ∙ simp (lt-ltb _ _ some))

-- A RAISE loses nothing
credit_raise : (t c slot : ℕ) (b : List ℕ) (σ : ℕ) → zoom_of t b < zoom_of t (credit_of t c slot b σ).bytes → (credit_of t c slot b σ).lost ≡ 0
credit_raise t c slot b σ = by (dec_lt (pixel_of b slot) 255) (dec_lt (zoom_of t b) (max_zoom c))
  where
    by : Dec (pixel_of b slot < 255) → Dec (zoom_of t b < max_zoom c) → zoom_of t b < zoom_of t (credit_of t c slot b σ).bytes → (credit_of t c slot b σ).lost ≡ 0
    by (yes low) z h = rw (← credit_gained t c slot b σ low) refl
    by (no full) (yes z) h = rw (credit_out t c slot b σ (omega arith) z) (zoom_out_lost t c slot b σ)
    by (no full) (no top) h = absurd (omega (arith, rw (credit_drops t c slot b σ (omega arith) (omega arith)) at h))

insert_raise : (t c n : ℕ) (b : List ℕ) (σ : ℕ) → Fit t c (length b) → zoom_of t b < zoom_of t (insert_of t c n b σ).bytes → (insert_of t c n b σ).lost ≡ 0
unfolding insert_of
insert_raise t c n b σ fit =
    either (λ (s : Step). zoom_of t b < zoom_of t s.bytes → s.lost ≡ 0) (ltb (shutter_of t b + 1) (unit_of t c b)) (still (with_shutter t (shutter_of t b + 1) b) σ)
    (credit_of t c (slot_of t n) (with_shutter t 0 b) σ) (λ e h. refl)
    (λ e h. credit_raise t c (slot_of t n) (with_shutter t 0 b) σ (omega (arith, with_shutter_zoom t 0 b fit.size_is)))

-- AT MAX_ZOOM WITH AN EMPTY SHUTTER nothing is lost by the next step either, and a step from below leads to no other cell of max_zoom
abbrev pub EmptyAtTop : ℕ → ℕ → List ℕ → Type 0
EmptyAtTop t c b = max_zoom c ≤ zoom_of t b → shutter_of t b ≡ 0

module _ (t c : ℕ) (b : List ℕ) (σ : ℕ) (fit : Fit t c (length b)) where
  -- a unit there is of more than one item
  pub empty_item : (n : ℕ) → EmptyAtTop t c b → one_if (loses_item t c n b) ≡ 0
  empty_item n empty = by (dec_lt (zoom_of t b) (max_zoom c))
    where
      by : Dec (zoom_of t b < max_zoom c) → one_if (loses_item t c n b) ≡ 0
      by (yes low) = sym (insert_lost t c n b σ fit) ∙ (inserted t c n b σ fit).lost_below low
      by (no top) =
          let one : c ^ 1 ≡ c = rw (pow-suc c 0, pow-zero c) (one-mul c) in
          let some : 1 ≤ max_zoom c = zoom_below c fit.c_low 1 (omega (arith, fit.c_high)) in
          let more : c ^ 1 ≤ unit_of t c b = pow-le-pow_right (omega (arith, fit.c_low)) (omega arith) in
          let short : shutter_of t b + 1 < unit_of t c b = omega (arith, empty (omega arith), fit.c_low) in
          simp (lt-leb _ _ short)

  pub empty_closing : (n crossed : ℕ) → EmptyAtTop t c b → (cross_of t c n crossed b σ).lost ≡ 0
  empty_closing n crossed empty = by (dec_lt (zoom_of t b) (max_zoom c))
    where
      by : Dec (zoom_of t b < max_zoom c) → (cross_of t c n crossed b σ).lost ≡ 0
      by (yes low) = cross_lost_below t c n crossed b σ fit low
      by (no top) =
          let unit = unit_of t c b in
          let none : (rounded_div (shutter_of t b) unit σ).value ≡ 0 =
          rw (empty (omega arith), ← whole_case 0 unit σ (zero-mod unit)) (zero-div unit) in
          cross_lost t c n crossed b σ fit ∙ rw none (never (ltb 0 crossed) (ltb crossed (pixels_of t)))

  pub insert_empties : (n : ℕ) → zoom_of t b < max_zoom c → EmptyAtTop t c (insert_of t c n b σ).bytes
  unfolding insert_of
  insert_empties n low =
      let shut = with_shutter t 0 b in
      let s = shutter_of t b + 1 in
      let kept : Fit t c (length shut) = rw (with_shutter_kept t 0 b fit.size_is).long fit in
      either (λ (r : Step). EmptyAtTop t c r.bytes) (ltb s (unit_of t c b)) (still (with_shutter t s b) σ) (credit_of t c (slot_of t n) shut σ)
      (λ e top. absurd (omega (arith, with_shutter_zoom t s b fit.size_is)))
      (λ e top. (credited t c (slot_of t n) shut σ kept (slot_inside t n)).shutter ∙ with_shutter_shutter t 0 b fit.size_is (omega arith))

  pub cross_empties : (n crossed : ℕ) → zoom_of t b < max_zoom c → EmptyAtTop t c (cross_of t c n crossed b σ).bytes
  unfolding cross_of
  cross_empties n crossed low =
      let inside = inside_of t c n crossed b σ in
      let quiet = inside_quiet t c n crossed b σ fit in
      let z = zoom_of t inside.bytes in
      let short : z < 256 = omega (arith, quiet.zoom_low (omega arith), max_zoom_limit c) in
      either (λ (r : Step). EmptyAtTop t c r.bytes) (eqb crossed 0) (still b σ) (leaving inside (zoom_in_of t c inside.bytes))
      (λ e top. absurd (omega arith))
      (λ e top. (zoom_in_leaves t c z inside.bytes (rw quiet.kept.long fit) (omega arith) short).shutter ∙ quiet.shutter)

-- THE CALLS
call_balance : (p : MicroParams) (n : ℕ) (b : List ℕ) (σ : ℕ) → (insert_call p n b σ).answer.verdict ≡ Accepted
    → zoom_of p.t (insert_call p n b σ).bytes ≡ zoom_of p.t b
    → Balances p.t p.c (insert_call p n b σ).bytes (insert_call p n b σ).answer.lost (total_of p.t p.c b + 1)
unfolding insert_call
call_balance p n b σ e = rw e (insert_balance p.t p.c n b σ (accepted_fit p σ (length b) _ e) ((cell_names.insert p n b σ).clear e))

only : (t c : ℕ) (after : List ℕ) (lost other before : ℕ) → 2 ≤ c → Balances t c after lost before → Balances t c after other before → lost ≡ other
only t c after lost other before base e e' =
    let unit = c ^ zoom_of t after in
    eq_of_mul-eq-mul_right unit (one-le-pow (zoom_of t after) c (omega arith)) lost other (omega (arith, e, e', mul_comm lost unit, mul_comm other unit))

refused : (v : Verdict) (s : Step) (b : List ℕ) (σ : ℕ) → is_accepted v ≡ false → (cell_call v s b σ).answer.lost ≡ 0
refused v s b σ e = refused_leaves v s.lost 0 e

pub lost_says : LostMeaning
unfolding insert_call cross_call merge_call
lost_says = record {
  credit = credit_lost;
  drops = credit_drops;
  insertion = insert_lost;
  crossing = cross_lost;
  balance = insert_balance;
  raise = insert_raise;
  call = call_balance;
  only = only;
  merge = merge_loses;
  insertion_below_top = λ t c n b σ fit. (inserted t c n b σ fit).lost_below;
  crossing_below_top = cross_lost_below;
  refused_insertion = λ p n b σ. refused (insert_verdict p b σ) (insert_of p.t p.c n b σ) b σ;
  refused_crossing = λ p n crossed b σ. refused (cross_verdict p n crossed b σ) (cross_of p.t p.c n crossed b σ) b σ;
  refused_merge = λ p n b src σ. refused (merge_verdict p b src σ) (merge_of p.t p.c n b src σ) b σ;
}
