-- Each way out of a crossing's functions is a case of its definition, in the form in which the code comes to it.
-- Assumes nothing.
use Prim.Native.Nat.{ℕ, suc, ◌+◌, ◌-◌, ◌/◌, ◌^◌, ◌≤◌, ◌<◌}
use mathlib.Core.Path.{◌≡◌, refl, sym, ap, ◌∙◌}
use mathlib.Core.Bool.{Bool, true, false, not}
use mathlib.Core.List.{List, ◌++◌}
use lib.ListN.{length, take, drop, replicate}
use lib.Seq.{length-take-le}
use native.Mathlib.Nat.{zero-div, zero-mod, one-le-pow}
use native.Mathlib.Omega.{arith}
use borrow.Author.Tests.{le-leb, lt-leb, eq-eqb, ne_eqb, not-true, not-false}
use Rattle.laws.specs.Steps.{Step, still, leaving, later, made}
use Rattle.rounding.specs.declared.Divided.{Divided}
use Rattle.rounding.specs.Draws.{rounded_div}
use Rattle.rounding.proofs.DivisionLaws.{whole_case, draws_le}
use Rattle.cell.specs.declared.Drawn.{Drawn}
use Rattle.cell.specs.Cell.{pixels_of, depth_of, slot_of, pixels_in, zoom_of, shutter_of, unit_of, with_zoom, with_shutter}
use Rattle.cell.specs.Insertion.{credit_of}
use Rattle.cell.specs.Crossing.{closed_with, close_of, clear_of, emptied, inside_of, ceiling_of, all_at_most, times_each, zoomed_in, zoom_in_from, zoom_in_of, cross_of}
use Rattle.cell.specs.Workers.{step_of}

-- the pixels are the front of a cell
module _ (t p : ℕ) (b : List ℕ) (e : p ≡ pixels_of t) where
  pub front_low : (m : ℕ) → all_at_most m (pixels_in t b) ≡ true → all_at_most m (take p b) ≡ true
  front_low m low = rw e low

  -- THE FAR JUMP
  pub emptied_is : length b ≡ depth_of t → (l l' : List ℕ) (σ : ℕ) → l ≡ replicate (length (take p b)) 0 → l' ≡ with_shutter t 0 (l ++ drop p b)
      → still l' σ ≡ still (emptied t b) σ
  unfolding emptied
  emptied_is d l l' σ el el' =
      let q : length (take (pixels_of t) b) ≡ pixels_of t = length-take-le (pixels_of t) b (omega arith) in
      rw (el', el, e, q) refl

  -- ONE LEVEL IN
  pub room_is : (c : ℕ) (room : Bool) → room ≡ all_at_most (255 / c) (take p b) → room ≡ all_at_most (ceiling_of c) (pixels_in t b)
  unfolding ceiling_of
  room_is c room er = rw e at er

  pub zoomed_is : (c z : ℕ) (l l' : List ℕ) → l ≡ times_each c (take p b) → l' ≡ with_zoom t z (l ++ drop p b) → l' ≡ zoomed_in t c z b
  unfolding zoomed_in
  zoomed_is c z l l' el el' = rw (el', el, e) refl

-- ZOOM IN: the definition of all at entry is that of the rest from here
pub record Zooming (t c : ℕ) (b₀ b : List ℕ) (z : ℕ) : Type 0 where
  pub done : zoom_in_of t c b₀ ≡ zoom_in_from t c z b
  pub same : length b ≡ length b₀

module _ (t c : ℕ) (b₀ : List ℕ) where
  pub zooming_begin : (z : ℕ) → z ≡ zoom_of t b₀ → Zooming t c b₀ b₀ z
  zooming_begin z e = record { done = rw e refl; same = refl }

  module _ (b : List ℕ) (z : ℕ) (w : Zooming t c b₀ b z) where
    pub zooming_end : z ≤ 0 → b ≡ zoom_in_of t c b₀
    unfolding zoom_in_from
    zooming_end h =
        let e : z ≡ 0 = omega arith in
        sym (w.done ∙ rw e refl)

    module _ (more : 0 < z) (room : Bool) (er : room ≡ all_at_most (ceiling_of c) (pixels_in t b)) where
      pub zooming_stop : not room ≡ true → b ≡ zoom_in_of t c b₀
      unfolding zoom_in_from
      zooming_stop g =
          let e : z ≡ suc (z - 1) = omega arith in
          sym (w.done ∙ rw (e, ← er, not-true room g) refl)

      pub zooming_on : not room ≡ false → (b' : List ℕ) → b' ≡ zoomed_in t c (z - 1) b → length b' ≡ length b → Zooming t c b₀ b' (z - 1)
      unfolding zoom_in_from
      zooming_on g b' eb same =
          let e : z ≡ suc (z - 1) = omega arith in
          record { done = (rw e at w.done) ∙ rw (← er, not-false room g, eb) refl; same = same ∙ w.same }

-- CLOSE
module _ (t c slot : ℕ) (b : List ℕ) (σ s u : ℕ) (es : s ≡ shutter_of t b) (eu : u ≡ unit_of t c b) where
  pub unit_positive : 2 ≤ c → 0 < u
  unit_positive h = rw eu (one-le-pow (zoom_of t b) c (omega arith))

  pub close_empty : (b' : List ℕ) → b' ≡ with_shutter t 0 b → s ≡ 0 → still b' σ ≡ close_of t c slot b σ
  unfolding close_of
  close_empty b' eb z =
      let unit = unit_of t c b in
      let none : rounded_div 0 unit σ ≡ record { value = 0; state = σ; draws = 0 } = sym (whole_case 0 unit σ (zero-mod unit)) ∙ rw (zero-div unit) in
      rw (eb, ← es, z, none) refl

  module _ (b' : List ℕ) (d : Divided) (eb : b' ≡ with_shutter t 0 b) (ed : d ≡ rounded_div s u σ) where
    closing : close_of t c slot b σ ≡ closed_with t c slot b' d
    unfolding close_of
    closing = rw (ed, eb, es, eu) refl

    pub close_none : d.value ≡ 0 → made b' d.state d.draws 0 ≡ close_of t c slot b σ
    close_none h = rw closing (simp (eq-eqb _ _ h))

    pub close_credit : (d.value ≡ 0 → ⊥) → (l : List ℕ) (r : Drawn) → step_of l r ≡ credit_of t c slot b' d.state
        → made l r.state (d.draws + r.draws) r.lost ≡ close_of t c slot b σ
    close_credit h l r e = rw closing (simp (ne_eqb _ _ h) (ap (later d.draws) e))

-- the draws of each way out
pub still_few : (b l : List ℕ) (σ k : ℕ) (r : Drawn) → step_of l r ≡ still b σ → r.draws ≤ k + 3
still_few b l σ k r e = omega (arith, ap (λ (s : Step). s.draws) e)

pub division_few : (v u σ k : ℕ) (d : Divided) → d ≡ rounded_div v u σ → d.draws ≤ k + 3
division_few v u σ k d e = rw e (omega (arith, draws_le v u σ))

module _ (v u σ t k : ℕ) (d : Divided) (e : d ≡ rounded_div v u σ) (h : k ≤ t + 2) where
  pub credited_few : d.draws + k ≤ t + 3
  credited_few = rw e (omega (arith, draws_le v u σ))

  pub credited_fits : t ≤ 4096 → d.draws + k < 2 ^ 32
  credited_fits r = omega (arith, credited_few)

-- the sub-window that ends
pub near_begun : (t n crossed p : ℕ) → p ≡ pixels_of t → crossed < p → (crossed < pixels_of t → crossed ≤ n) → crossed ≤ n
near_begun t n crossed p ep h begins = begins (omega arith)

-- UP TO THE ZOOMING IN
module _ (t c n crossed p : ℕ) (b : List ℕ) (σ : ℕ) (ep : p ≡ pixels_of t) where
  pub inside_far : p ≤ crossed → (l : List ℕ) (r : Drawn) → step_of l r ≡ still (emptied t b) σ → step_of l r ≡ inside_of t c n crossed b σ
  unfolding inside_of
  inside_far h l r e =
      let q : pixels_of t ≤ crossed = omega arith in
      e ∙ sym (simp (le-leb _ _ q))

  pub inside_near : crossed < p → (slot : ℕ) (l l' : List ℕ) (r : Drawn) → slot ≡ slot_of t (n - crossed)
      → step_of l r ≡ close_of t c slot b σ → l' ≡ clear_of t crossed (n - crossed + 1) l → step_of l' r ≡ inside_of t c n crossed b σ
  unfolding inside_of
  inside_near h slot l l' r known e el =
      let q : crossed < pixels_of t = omega arith in
      simp (lt-leb _ _ q) (rw (el, ← known) (ap (λ (s : Step). leaving s (clear_of t crossed (n - crossed + 1) s.bytes)) e))

-- THE CROSSING
module _ (t c n crossed : ℕ) (b : List ℕ) (σ : ℕ) where
  pub cross_none : crossed ≡ 0 → still b σ ≡ cross_of t c n crossed b σ
  unfolding cross_of
  cross_none h = simp (eq-eqb _ _ h)

  pub cross_done : (crossed ≡ 0 → ⊥) → (l l' : List ℕ) (r : Drawn) → step_of l r ≡ inside_of t c n crossed b σ → l' ≡ zoom_in_of t c l
      → step_of l' r ≡ cross_of t c n crossed b σ
  unfolding cross_of
  cross_done h l l' r e el = simp (ne_eqb _ _ h) (rw el (ap (λ (s : Step). leaving s (zoom_in_of t c s.bytes)) e))
