-- One test, computed over the whole card, and one law: a line that passes it gives max_zoom for each of its bases, as powers rise with the
-- base. Assumes nothing.
use Prim.Native.Nat.{ℕ, zero, suc, ◌-◌, ◌^◌, ◌≤◌, ◌<◌}
use mathlib.Core.Path.{◌≡◌, refl, sym, ◌∙◌}
use mathlib.Core.Bool.{Bool, true, false, cond, ◌&&◌, true≢false}
use mathlib.Core.List.{List, [], ◌∷◌}
use lib.Dec.{leb, ltb, eqb}
use lib.ListN.{length, get_or}
use native.Mathlib.Omega.{arith}
use native.Mathlib.Nat.{pow-le-pow_left, le_trans, lt_of_lt_of_le, lt_of_not-le, not-le_of_lt, le_of_suc-le-suc, not-suc-le-zero}
use borrow.Author.Tests.{leb-true, ltb-true, eqb-true, le-leb}
use Rattle.laws.proofs.PowerLaws.{highest_unique}
use Rattle.laws.proofs.ChoiceLaws.{either, both_hold}
use Rattle.cell.specs.Cell.{max_zoom}
use Rattle.refusal.specs.declared.Verdict.TheVariants.{Accepted, Refused}
use Rattle.refusal.specs.Refusals.{outside, when_accepted}
use Rattle.refusal.proofs.VerdictLaws.{inside_range, range_inside}
use Rattle.cell.specs.Refusals.{max_zoom_call}
use Rattle.cell.specs.Card.{Line, line, card, stands, look_up, line_at, CardSays}

-- THE TEST: at the last base the power still fits, at the first base the next one does not
abbrev right : Line → Bool
right l = leb (l.last ^ l.gives) (2 ^ 32 - 1) && ltb (2 ^ 32 - 1) (l.first ^ suc l.gives)

-- every line is right, and begins with the base after the one before it; the last one ends with 256
unfoldable goes_on : ℕ → List Line → Bool
goes_on next [] = eqb next 257
goes_on next (l ∷ lines) = eqb l.first next && (leb next l.last && (right l && goes_on (suc l.last) lines))

-- ONE LINE
stands_where : (l : Line) (c : ℕ) → stands l c ≡ true → (l.first ≤ c) × (c ≤ l.last)
stands_where l c e =
    let q = both_hold _ _ e in
    (leb-true _ _ q.0, leb-true _ _ q.1)

stands_in : (l : Line) (c : ℕ) → l.first ≤ c → c ≤ l.last → stands l c ≡ true
stands_in l c from to = simp (le-leb _ _ from, le-leb _ _ to)

module _ (l : Line) (low : 2 ≤ l.first) (passed : right l ≡ true) where
  pub line_gives : (c : ℕ) → l.first ≤ c → c ≤ l.last → l.gives ≡ max_zoom c
  unfolding max_zoom
  line_gives c from to =
      let q = both_hold _ _ passed in
      highest_unique c (le_trans low from) l.gives
      (le_trans (pow-le-pow_left to l.gives) (leb-true _ _ q.0))
      (lt_of_lt_of_le (ltb-true _ _ q.1) (pow-le-pow_left from (suc l.gives)))

-- THE LINES FROM ONE ON
record Head (next : ℕ) (l : Line) (lines : List Line) : Type 0 where
  begins : l.first ≡ next
  ends : next ≤ l.last
  passed : right l ≡ true
  rest : goes_on (suc l.last) lines ≡ true

head_of : (next : ℕ) (l : Line) (lines : List Line) → goes_on next (l ∷ lines) ≡ true → Head next l lines
unfolding goes_on
head_of next l lines e =
    let a = both_hold _ _ e in
    let b = both_hold _ _ a.1 in
    let d = both_hold _ _ b.1 in
    record { begins = eqb-true _ _ a.0; ends = leb-true _ _ b.0; passed = d.0; rest = d.1 }

-- none goes beyond 256
limit : (lines : List Line) (next : ℕ) → goes_on next lines ≡ true → next ≤ 257
unfolding goes_on
limit [] next e = omega (arith, eqb-true next 257 e)
limit (l ∷ lines) next e =
    let q = head_of next l lines e in
    omega (arith, q.ends, limit lines (suc l.last) q.rest)

at_line : (lines : List Line) (next : ℕ) → 2 ≤ next → goes_on next lines ≡ true → (i c : ℕ) → i < length lines
    → (get_or lines i (line 0 0 0)).first ≤ c → c ≤ (get_or lines i (line 0 0 0)).last → (get_or lines i (line 0 0 0)).gives ≡ max_zoom c
at_line [] next low e i c h = absurd (not-suc-le-zero h)
at_line (l ∷ lines) next low e zero c h =
    let q = head_of next l lines e in
    line_gives l (rw q.begins low) q.passed c
at_line (l ∷ lines) next low e (suc i) c h =
    let q = head_of next l lines e in
    at_line lines (suc l.last) (omega (arith, q.ends)) q.rest i c (le_of_suc-le-suc h)

-- a base stands in one of them
found : (lines : List Line) (next : ℕ) → 2 ≤ next → goes_on next lines ≡ true → (c : ℕ) → next ≤ c → c ≤ 256 → look_up lines c ≡ max_zoom c
unfolding goes_on look_up
found [] next low e c from to = absurd (not-le_of_lt (rw (eqb-true next 257 e) at from) to)
found (l ∷ lines) next low e c from to =
    let q = head_of next l lines e in
    let begun : l.first ≤ c = rw q.begins from in
    either (λ z. z ≡ max_zoom c) (stands l c) l.gives (look_up lines c)
    (λ h. line_gives l (rw q.begins low) q.passed c begun (stands_where l c h).1)
    (λ h.
    let past : l.last < c = lt_of_not-le (λ ends. true≢false (sym (stands_in l c begun ends) ∙ h)) in
    found lines (suc l.last) (omega (arith, q.ends)) q.rest c past to)

-- any other number stands in none
none : (lines : List Line) (next : ℕ) → goes_on next lines ≡ true → (c : ℕ) → (next ≤ c → 256 < c) → look_up lines c ≡ 0
unfolding goes_on look_up
none [] next e c out = refl
none (l ∷ lines) next e c out =
    let q = head_of next l lines e in
    either (λ z. z ≡ 0) (stands l c) l.gives (look_up lines c)
    (λ h.
    let s = stands_where l c h in
    let far : 256 < c = out (rw q.begins at s.0) in
    absurd (not-le_of_lt far (omega (arith, s.1, limit lines (suc l.last) q.rest))))
    (λ h. none lines (suc l.last) q.rest c (λ from. out (omega (arith, q.ends))))

-- THE CARD
tested : goes_on 2 card ≡ true
unfolding goes_on
tested = refl

pub on_card : (i c : ℕ) → i < length card → (line_at i).first ≤ c → c ≤ (line_at i).last → (line_at i).gives ≡ max_zoom c
on_card = at_line card 2 (omega arith) tested

told : (x : Bool) (z : ℕ) → cond x 0 z ≡ when_accepted (cond x (Refused 2) Accepted) z 0
told true z = refl
told false z = refl

called : (c : ℕ) → look_up card c ≡ (max_zoom_call c).zoom
unfolding max_zoom_call
called c =
    either (λ z. look_up card c ≡ z) (outside 2 256 c) 0 (max_zoom c)
    (λ e. none card 2 tested c (λ from. lt_of_not-le (λ to. true≢false (sym e ∙ range_inside 2 256 c from to))))
    (λ e. let q = inside_range 2 256 c e in found card 2 (omega arith) tested c q.0 q.1)
    ∙ told (outside 2 256 c) (max_zoom c)

pub card_says : CardSays
card_says = record { as_called = called; each_line = on_card }
