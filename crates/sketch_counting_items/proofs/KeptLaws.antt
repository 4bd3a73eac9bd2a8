-- What a call has judged still holds between its steps: a crossing and a recording keep the grid's length, and a sound cell sound.
use Prim.Native.Nat.{ℕ, ◌+◌, ◌-◌, ◌*◌, ◌^◌, ◌≤◌, ◌<◌}
use mathlib.Core.Path.{◌≡◌, refl, sym, ◌∙◌, subst}
use mathlib.Core.Bool.{Bool, true, false, not, cond}
use mathlib.Core.List.{List, []}
use lib.Dec.{eqb}
use lib.ListN.{length}
use native.Mathlib.Omega.{arith}
use borrow.Author.Tests.{eqb-false, ne_eqb, not-true}
use Rattle.laws.specs.Steps.{Step, still}
use Rattle.refusal.specs.declared.Verdict.{Verdict}
use Rattle.refusal.specs.declared.Verdict.TheVariants.{Accepted, Unsound}
use Rattle.refusal.specs.Refusals.{is_accepted, refuse}
use Rattle.refusal.proofs.VerdictLaws.{let_pass, not_refused}
use Rattle.refusal.proofs.GateLaws.{gate_passed}
use Rattle.clock.specs.declared.SubWindowClock.{SubWindowClock}
use Rattle.clock.specs.Clock.{n_of}
use Rattle.sketch.specs.declared.MicroCm.{MicroCm}
use Rattle.sketch.specs.declared.Passed.{Passed}
use Rattle.sketch.specs.Sketch.{cells_of, key_cells, all_cells, insert_each, cross_each}
use Rattle.sketch.specs.Refusals.{all_below, refuse_sketch, refuse_unsound, judged_cells, sketch_verdict, move_verdict}
use Rattle.sketch.specs.Workers.{Ready, Judged, Readable, SoundCells, pass_of}
use Rattle.sketch.proofs.AddressLaws.{cells_few}
use Rattle.sketch.proofs.JudgedLaws.{judged_all, sound_cells}
use Rattle.sketch.proofs.GridLaws.{Fits, cross_each_length}
use Rattle.sketch.proofs.KeyLaws.{key_cells_below}
use Rattle.sketch.proofs.WorldLaws.{Good, fits_key, none_unsound, insert_each_good, cross_each_good}
use Rattle.sketch.proofs.ReadyLaws.{ready_of, alive_of}
use Rattle.sketch.proofs.SketchGates.{sketch_gate}
use Rattle.sketch_counting_items.specs.Workers.{SubWindows, SoundIf, Countable, cross_if}

good_of : (k : MicroCm) (g : List ℕ) → sketch_verdict k g ≡ Accepted → Judged k g (all_cells k) → Good k g k.rounding.state
good_of k g e w = record { whole = (ready_of k g e).size_is; alive = alive_of k g e; sound = λ j l. judged_all k g j w l }

module _ (k : MicroCm) (key g : List ℕ) (at : SubWindows) (w : Countable k key g at) where
  ready : Ready k (length g)
  ready = ready_of k g w.whole

  fit : Fits k
  fit = ready.fit

  below : all_below (cells_of k) (key_cells k 0 key) ≡ true
  below = key_cells_below k 0 key (fits_key k key w.fits)

  key_judged : Judged k g (key_cells k 0 key)
  key_judged = by (eqb at.new at.old) w.judged
    where
      by : (stays : Bool) → Judged k g (cond stays (key_cells k 0 key) (all_cells k)) → Judged k g (key_cells k 0 key)
      by true j = j
      by false j = none_unsound Unsound Accepted k g k.rounding.state (good_of k g w.whole j) (key_cells k 0 key) below

  -- an item outside one of the two sub-windows is one of a call that crosses
  rose_first : not (eqb at.own at.old) ≡ true → at.new ≡ at.old → ⊥
  rose_first h e = eqb-false at.own at.old (not-true (eqb at.own at.old) h) (w.own_is e)

  rose_last : not (eqb at.new at.own) ≡ true → at.new ≡ at.old → ⊥
  rose_last h e = eqb-false at.new at.own (not-true (eqb at.new at.own) h) (e ∙ sym (w.own_is e))

  good : (at.new ≡ at.old → ⊥) → Good k g k.rounding.state
  good rose = good_of k g w.whole (rw (ne_eqb at.new at.old rose) at w.judged)

  good_cells : (l : List ℕ) (σ : ℕ) → Good k l σ → SoundCells k.params.t k.params.c (cells_of k) l
  good_cells l σ h = record { fit = fit; few = cells_few k (length g) ready; room = omega (arith, h.whole); sound = h.sound }

  pub before_sound : SoundIf (not (eqb at.own at.old)) k g
  before_sound = record { sound = λ h. good_cells g k.rounding.state (good (rose_first h)) }

  -- BETWEEN the crossing and the item
  module _ (m : List ℕ) (p : Passed) (ep : pass_of m p ≡ cross_if (not (eqb at.own at.old)) k at.old at.new g k.rounding.state) where
    abbrev crossed : Step
    crossed = cross_each k at.new (at.new - at.old) g k.rounding.state

    by_move : (P : Step → Type 0) → (not (eqb at.own at.old) ≡ true → P crossed) → P (still g k.rounding.state) → P (pass_of m p)
    by_move P moves stays = go (not (eqb at.own at.old)) refl ep
      where
        go : (b : Bool) → not (eqb at.own at.old) ≡ b → pass_of m p ≡ cross_if b k at.old at.new g k.rounding.state → P (pass_of m p)
        go true h e = subst P (sym e) (moves h)
        go false h e = subst P (sym e) stays

    crossed_good : (at.new ≡ at.old → ⊥) → Good k crossed.bytes crossed.state
    crossed_good rose = cross_each_good k g k.rounding.state fit (good rose) at.new (at.new - at.old)

    crossed_length : length crossed.bytes ≡ length g
    crossed_length = cross_each_length k fit at.new (at.new - at.old) g k.rounding.state (omega (arith, ready.size_is))

    between_good : (at.new ≡ at.old → ⊥) → Good k m p.state
    between_good rose = by_move (λ (s : Step). Good k s.bytes s.state) (λ h. crossed_good rose) (good rose)

    between_length : length m ≡ length g
    between_length = by_move (λ (s : Step). length s.bytes ≡ length g) (λ h. crossed_length) refl

    between_judged : Judged k m (key_cells k 0 key)
    between_judged =
        by_move (λ (s : Step). Judged k s.bytes (key_cells k 0 key))
        (λ h. none_unsound Unsound Accepted k _ _ (crossed_good (rose_first h)) (key_cells k 0 key) below)
        key_judged

    pub between_readable : Readable k key m
    between_readable = record { ready = rw between_length ready; fits = w.fits; judged = between_judged }

    inserted_good : (l : List ℕ) (r : Passed) → pass_of l r ≡ insert_each k at.own (key_cells k 0 key) m p.state
        → (at.new ≡ at.old → ⊥) → Good k l r.state
    inserted_good l r er rose =
        let i = insert_each_good k m p.state fit (between_good rose) at.own (key_cells k 0 key) below in
        subst (λ (s : Step). Good k s.bytes s.state) (sym er) i

  sound_last : (l : List ℕ) (σ : ℕ) → ((at.new ≡ at.old → ⊥) → Good k l σ) → SoundIf (not (eqb at.new at.own)) k l
  sound_last l σ good-then = record { sound = λ h. good_cells l σ (good-then (rose_last h)) }

  -- the draws of at most two crossings and a recording
  pub few_draws : (x y z : ℕ) → x ≤ k.rows * k.cols * 4099 → y ≤ 128 * 4098 → z ≤ k.rows * k.cols * 4099 → x + y + z < 2 ^ 64
  few_draws x y z hx hy hz = omega (arith, cells_few k (length g) ready)

  -- and what they lose
  pub few_lost : (x y z : ℕ) → x ≤ k.rows * k.cols → y ≤ 128 → z ≤ k.rows * k.cols → x + y + z < 2 ^ 64
  few_lost x y z hx hy hz = omega (arith, cells_few k (length g) ready)

-- BEHIND the item
pub last_sound : (k : MicroCm) (key g : List ℕ) (at : SubWindows) (l m : List ℕ) (r p : Passed)
    → pass_of l r ≡ insert_each k at.own (key_cells k 0 key) m p.state
    → pass_of m p ≡ cross_if (not (eqb at.own at.old)) k at.old at.new g k.rounding.state
    → Countable k key g at → SoundIf (not (eqb at.new at.own)) k l × (at.old ≤ at.new)
last_sound k key g at l m r p er ep w = (sound_last k key g at w l r.state (inserted_good k key g at w m p ep l r er), w.grows)

-- NO ITEM, accepted
module _ (k : MicroCm) (g : List ℕ) (clock : SubWindowClock) (number : ℕ) (holds : Bool) (v : Verdict) (ok : Bool)
    (ev : v ≡ move_verdict k g clock (refuse number holds)) (asked : ok ≡ is_accepted v) (a : not ok ≡ false) where
  abbrev all : Verdict
  all = refuse_unsound k g (judged_cells k clock []) Accepted

  let_through : (sketch_verdict k g ≡ Accepted) × (refuse number holds all ≡ Accepted)
  let_through = gate_passed (refuse_sketch k g) (sketch_gate k g) (refuse number holds all) (sym ev ∙ let_pass v ok asked a)

  move_ready : Ready k (length g)
  move_ready = ready_of k g let_through.0

  -- where n rises every cell was judged
  pub move_sound : (old new : ℕ) → new ≡ n_of clock → old ≡ n_of k.clock → (new ≡ old → ⊥)
      → SoundCells k.params.t k.params.c (cells_of k) g
  move_sound old new en eo rose =
      let rises = ne_eqb (n_of clock) (n_of k.clock) (λ e. rose (en ∙ e ∙ sym eo)) in
      sound_cells k g move_ready (rw rises at (not_refused number holds all let_through.1).1)
