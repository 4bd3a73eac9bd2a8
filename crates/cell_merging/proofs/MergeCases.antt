-- The stages of a merge in the form in which the code comes to them: the carry and the whole. Assumes nothing.
use Prim.Native.Nat.{ℕ, ◌+◌, ◌-◌, ◌*◌, ◌%◌, ◌^◌, ◌≤◌, ◌<◌, max}
use mathlib.Core.Path.{◌≡◌, sym, ap, ◌∙◌}
use mathlib.Core.List.{List}
use native.Mathlib.Nat.{mod-eq_of_lt, mod-eq-sub-mod, div-eq_of_lt-le, div-lt_iff_lt-mul}
use native.Mathlib.Omega.{arith}
use Rattle.laws.specs.Steps.{made}
use Rattle.cell_merging.specs.declared.merge.Carry.{Carry}
use Rattle.cell_merging_sums.specs.declared.worker.Summed.{Summed}
use Rattle.cell.specs.Cell.{slot_of, zoom_of, shutter_of, with_pixels, with_zoom, with_shutter}
use Rattle.cell.specs.Merge.{merged_with, merge_of, sums_of}
use Rattle.cell_merging_sums.specs.Workers.{settled_of}
use Rattle.cell_merging.specs.Workers.{Pair, Carried}
use Rattle.cell.proofs.MergeLaws.{target_fits, target_positive, carry_le}

-- THE CARRY: two shutters are below two units, of which they make one or none
module _ (t c : ℕ) (b src : List ℕ) (p : Pair t c b src) (target : ℕ) (et : target ≡ max (zoom_of t b) (zoom_of t src)) where
  pub unit_fits : c ^ target ≤ 2 ^ 32 - 1
  unit_fits = target_fits t c b src p.sound p.sound_src p.fit.c_low target et

  module _ (unit shutters : ℕ) (eu : unit ≡ c ^ target) (es : shutters ≡ shutter_of t b + shutter_of t src) where
    below : shutters < 2 * unit
    below =
        (div-lt_iff_lt-mul (target_positive t c b src p.sound p.sound_src p.fit.c_low target et unit shutters eu es)).0
        (omega (arith, carry_le t c b src p.sound p.sound_src p.fit.c_low target et unit shutters eu es))

    pub rest_fits : shutters - unit < 2 ^ 32
    rest_fits = omega (arith, below, unit_fits)

    pub carry_one : unit ≤ shutters → Carried (shutter_of t b + shutter_of t src) (c ^ target) (record { units = 1; rest = shutters - unit })
    carry_one h =
        let low : shutters - unit < unit = omega (arith, below) in
        rw (← es, ← eu)
        (record {
          units_are = sym (div-eq_of_lt-le unit (omega arith) (omega (arith, below)));
          rest_is = sym (mod-eq-sub-mod h ∙ mod-eq_of_lt low);
          few = omega arith;
        })

    pub shutters_fit : shutters < unit → shutters < 2 ^ 32
    shutters_fit h = omega (arith, unit_fits)

-- THE MERGE
module _ (t c : ℕ) (b src : List ℕ) (target : ℕ) (et : target ≡ max (zoom_of t b) (zoom_of t src))
    (carry : Carry) (ec : Carried (shutter_of t b + shutter_of t src) (c ^ target) carry) where
  pub merged_is : (n slot : ℕ) → slot ≡ slot_of t n → (σ : ℕ) (sums l : List ℕ) (r : Summed)
      → settled_of sums r ≡ sums_of t c target slot carry.units b src σ
      → l ≡ with_shutter t carry.rest (with_zoom t r.zoom (with_pixels t sums b))
      → made l r.state r.draws r.lost ≡ merge_of t c n b src σ
  unfolding merge_of sums_of
  merged_is n slot en σ sums l r e el =
      rw (el, ec.rest_is, et)
      (ap (merged_with t ((shutter_of t b + shutter_of t src) % c ^ max (zoom_of t b) (zoom_of t src)) b) (rw (ec.units_are, en, et) at e))
