-- The ways out of the calls that only read: turned back by the verdict, or accepted and told. Assumes nothing.
use Prim.Native.Nat.{ℕ, ◌*◌, ◌-◌, ◌^◌, ◌≤◌, ◌<◌}
use mathlib.Core.Path.{◌≡◌, refl}
use mathlib.Core.Bool.{Bool, true, false, not}
use mathlib.Core.List.{List}
use lib.Dec.{T}
use lib.IntN.{pos}
use lib.Ieee.{binary64, of_bits, in_float}
use native.Mathlib.Omega.{arith}
use native.Mathlib.Nat.{mul-le-mul}
use Rattle.laws.specs.Figure.{figure}
use Rattle.laws.proofs.FigureLaws.{castable, zero_is}
use Rattle.refusal.specs.declared.Verdict.{Verdict}
use Rattle.refusal.specs.declared.Verdict.TheVariants.{Accepted}
use Rattle.refusal.specs.Refusals.{is_accepted}
use Rattle.refusal.proofs.VerdictLaws.{refused_leaves, turned_back_lem, let_pass}
use Rattle.cell.specs.declared.MicroParams.{MicroParams}
use Rattle.cell.specs.declared.Held.{Held}
use Rattle.cell.specs.Cell.{slot_of, pixel_of, zoom_of, shutter_of, unit_of, max_zoom}
use Rattle.cell.specs.Refusals.{max_zoom_verdict, max_zoom_call, zoom_call, shutter_call, pixel_call}
use Rattle.cell.specs.Workers.{Judged, HeldOf}
use Rattle.cell.proofs.SoundLaws.{sound_unit}

-- A BASE
module _ (c : ℕ) (v : Verdict) (judged : v ≡ max_zoom_verdict c) (ok : Bool) (asked : ok ≡ is_accepted v) where
  pub max_zoom_turned : not ok ≡ true → record { verdict = v; zoom = 0 } ≡ max_zoom_call c
  unfolding max_zoom_call
  max_zoom_turned h = rw (← judged, refused_leaves v (max_zoom c) 0 (turned_back_lem v ok asked h)) refl

  module _ (h : not ok ≡ false) where
    pub max_zoom_done : (z : ℕ) → z ≡ max_zoom c → record { verdict = v; zoom = z } ≡ max_zoom_call c
    unfolding max_zoom_call
    max_zoom_done z e = rw (← judged, let_pass v ok asked h, e) refl

-- READING A CELL: a reading brings the state 1, by which nothing is turned back
module _ (p : MicroParams) (b : List ℕ) (r : Held) (held : HeldOf p b 1 r) (ok : Bool) (asked : ok ≡ is_accepted r.verdict) where
  module _ (h : not ok ≡ true) where
    pub zoom_turned : record { verdict = r.verdict; zoom = 0 } ≡ zoom_call p b
    unfolding zoom_call
    zoom_turned = rw (← held.verdict_is, refused_leaves r.verdict (zoom_of p.t b) 0 (turned_back_lem r.verdict ok asked h)) refl

    pub shutter_turned : record { verdict = r.verdict; shutter = 0 } ≡ shutter_call p b
    unfolding shutter_call
    shutter_turned = rw (← held.verdict_is, refused_leaves r.verdict (shutter_of p.t b) 0 (turned_back_lem r.verdict ok asked h)) refl

    pub pixel_turned : (n : ℕ) → record { verdict = r.verdict; items = of_bits binary64 0 } ≡ pixel_call p n b
    unfolding pixel_call
    pixel_turned n =
        let items = unit_of p.t p.c b * pixel_of b (slot_of p.t n) in
        rw (← held.verdict_is, refused_leaves r.verdict items 0 (turned_back_lem r.verdict ok asked h), zero_is) refl

  module _ (h : not ok ≡ false) where
    accepted : r.verdict ≡ Accepted
    accepted = let_pass r.verdict ok asked h

    read : Judged p.t p.c b r.shutter r.unit
    read = held.judged accepted

    pub zoom_done : (z : ℕ) → z ≡ zoom_of p.t b → record { verdict = r.verdict; zoom = z } ≡ zoom_call p b
    unfolding zoom_call
    zoom_done z e = rw (← held.verdict_is, accepted, e) refl

    pub shutter_done : record { verdict = r.verdict; shutter = r.shutter } ≡ shutter_call p b
    unfolding shutter_call
    shutter_done = rw (← held.verdict_is, accepted, read.shutter_is) refl

    module _ (n slot : ℕ) (here : slot ≡ slot_of p.t n) where
      pub pixel_done : (pixel : ℕ) → pixel ≡ pixel_of b slot → record { verdict = r.verdict; items = figure (r.unit * pixel) } ≡ pixel_call p n b
      unfolding pixel_call
      pixel_done pixel e = rw (← held.verdict_is, accepted, e, here, read.unit_is) refl

    -- a unit of four bytes times a byte
    module _ (pixel : ℕ) (small : pixel < 256) where
      items_short : r.unit * pixel < 2 ^ 40
      items_short =
          let u : r.unit ≤ 2 ^ 32 - 1 = rw read.unit_is (sound_unit p.t p.c b read.sound read.fit.c_low) in
          let x : pixel ≤ 255 = omega arith in
          let m : r.unit * pixel ≤ (2 ^ 32 - 1) * 255 = mul-le-mul u x in
          omega arith

      pub items_fit : r.unit * pixel < 2 ^ 64
      items_fit = omega (arith, items_short)

      pub items_exact : T (in_float binary64 (pos (r.unit * pixel)))
      items_exact = castable (r.unit * pixel) (omega (arith, items_short))
