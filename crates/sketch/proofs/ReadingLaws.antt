-- A reading asks for the key's cells and for no others, and the clock's fraction passes every test of a given one. Assumes nothing.
use Prim.Native.Nat.{ℕ}
use mathlib.Core.Path.{◌≡◌, refl, sym, ap, ◌∙◌}
use mathlib.Core.Bool.{Bool, true, false, not, ◌&&◌}
use mathlib.Core.List.{List}
use lib.Ieee.{Float}
use Rattle.laws.specs.Unit.{in_unit}
use Rattle.refusal.specs.declared.Verdict.{Verdict}
use Rattle.refusal.specs.declared.Verdict.TheVariants.{Accepted}
use Rattle.refusal.specs.Refusals.{is_accepted, refuse}
use Rattle.refusal.proofs.VerdictLaws.{accepted_is, refuse_then}
use Rattle.refusal.proofs.GateLaws.{Gate, gate_chain, gate_open, gate_shut}
use Rattle.clock.specs.Clock.{fraction_of}
use Rattle.clock.specs.Workers.{GoodLength}
use Rattle.clock.proofs.ClockLaws.{fraction_in_unit}
use Rattle.sketch.specs.declared.MicroCm.{MicroCm}
use Rattle.sketch.specs.Sketch.{key_cells}
use Rattle.sketch.specs.Figures.{has_oldest}
use Rattle.sketch.specs.Refusals.{key_fits, refuse_sketch, refuse_key, refuse_unsound, sketch_verdict, read_verdict, read_with_verdict, reading_answer}
use Rattle.sketch.specs.Refusals.{read_call, read_with_call}
use Rattle.sketch.specs.Workers.{Judged}
use Rattle.sketch.proofs.SketchGates.{sketch_gate}
use Rattle.sketch.proofs.ReadyLaws.{keyed_ready}

module _ (k : MicroCm) (key g : List ℕ) where
  -- 1 to 7
  abbrev pub keyed : Verdict → Verdict
  keyed rest = refuse_sketch k g (refuse_key k key rest)

  pub keyed_gate : Gate keyed
  keyed_gate = gate_chain (refuse_sketch k g) (refuse_key k key) (sketch_gate k g) (refuse_then 7 (not (key_fits k key)))

  -- 14
  abbrev pub cells : Verdict
  cells = refuse_unsound k g (key_cells k 0 key) Accepted

  -- 13 and 14
  abbrev pub fraction_then : Float → Verdict
  fraction_then fraction = refuse 13 (has_oldest k && not (in_unit fraction)) cells

  unit_passes : (fraction : Float) → in_unit fraction ≡ true → fraction_then fraction ≡ cells
  unit_passes fraction u = by (has_oldest k) (in_unit fraction) u
    where
      by : (x y : Bool) → y ≡ true → refuse 13 (x && not y) cells ≡ cells
      by true y e = rw e refl
      by false y e = refl

  -- THE KEY'S CELLS are sound, whatever the rest of the grid holds
  module _ (good : sketch_verdict k g ≡ Accepted) (fits : key_fits k key ≡ true) (sound : Judged k g (key_cells k 0 key)) where
    past : (rest : Verdict) → keyed rest ≡ rest
    past rest = gate_open (refuse_sketch k g) (sketch_gate k g) (refuse_key k key rest) good ∙ rw fits refl

    pub key_read : read_verdict k key g ≡ Accepted
    key_read = past cells ∙ sound

    -- with a fraction from 0 to 1
    pub key_read_with : (fraction : Float) → in_unit fraction ≡ true → read_with_verdict k key fraction g ≡ Accepted
    key_read_with fraction u = past (fraction_then fraction) ∙ unit_passes fraction u ∙ sound

    -- and with any, a NaN too, while no sub-window has left the window
    pub young_read_with : (fraction : Float) → has_oldest k ≡ false → read_with_verdict k key fraction g ≡ Accepted
    young_read_with fraction y = past (fraction_then fraction) ∙ rw y sound

  -- THE CLOCK'S FRACTION needs no range test
  clock_judged : read_verdict k key g ≡ read_with_verdict k key (fraction_of k.clock) g
  clock_judged = by (is_accepted (keyed Accepted)) refl
    where
      by : (x : Bool) → is_accepted (keyed Accepted) ≡ x → keyed cells ≡ keyed (fraction_then (fraction_of k.clock))
      by true e =
          let ready = (keyed_ready k key g (accepted_is (keyed Accepted) e)).0 in
          let good : GoodLength k.clock = ready.timed in
          ap keyed (sym (unit_passes (fraction_of k.clock) (fraction_in_unit k.clock good)))
      by false e =
          gate_shut keyed keyed_gate cells (keyed Accepted) refl e
          ∙ sym (gate_shut keyed keyed_gate (fraction_then (fraction_of k.clock)) (keyed Accepted) refl e)

  pub clock_read : read_call k key g ≡ read_with_call k key (fraction_of k.clock) g
  unfolding read_call read_with_call
  clock_read = ap (λ (v : Verdict). reading_answer v k g key (fraction_of k.clock)) clock_judged
