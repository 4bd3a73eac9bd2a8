-- Soundness is two comparisons, and c ^ Z with 0 above max_zoom makes them one. Assumes nothing.
use Prim.Native.Nat.{ℕ, ◌-◌, ◌^◌, ◌≤◌, ◌<◌}
use mathlib.Core.Path.{◌≡◌, refl, ◌∙◌}
use mathlib.Core.Bool.{Bool, true, false, cond, ◌&&◌}
use mathlib.Core.List.{List}
use lib.Dec.{leb, ltb}
use lib.ListN.{length}
use native.Mathlib.Nat.{pow-zero, one-le-pow}
use native.Mathlib.Omega.{arith}
use borrow.Author.Tests.{le-leb, lt-ltb, le-ltb, leb-true, ltb-true}
use Rattle.laws.proofs.ChoiceLaws.{both_hold}
use Rattle.cell.specs.Cell.{zoom_of, shutter_of, unit_of, max_zoom, sound_of}
use Rattle.cell.specs.Workers.{Fit, Judged, unit_or_zero}
use Rattle.cell.proofs.PowerLaws.{zoom_fits}

tested : (x : Bool) (s u : ℕ) → ltb s (cond x u 0) ≡ (x && ltb s u)
tested true s u = refl
tested false s u = le-ltb s 0 (omega arith)

-- no shutter is below the 0 that stands for the unit above max_zoom
pub fields_tested : (c z s unit : ℕ) → unit ≡ unit_or_zero c z → ltb s unit ≡ (leb z (max_zoom c) && ltb s (c ^ z))
fields_tested c z s unit eu = rw eu (tested (leb z (max_zoom c)) s (c ^ z))

module _ (t c : ℕ) (b : List ℕ) where
  module _ (sound : sound_of t c b ≡ true) where
    tests : (leb (zoom_of t b) (max_zoom c) ≡ true) × (ltb (shutter_of t b) (unit_of t c b) ≡ true)
    unfolding sound_of
    tests = both_hold (leb (zoom_of t b) (max_zoom c)) (ltb (shutter_of t b) (unit_of t c b)) sound

    pub sound_zoom : zoom_of t b ≤ max_zoom c
    sound_zoom = leb-true _ _ tests.0

    pub sound_shutter : shutter_of t b < unit_of t c b
    sound_shutter = ltb-true _ _ tests.1

    -- at zoom 0 a unit is one item: the shutter holds none
    pub sound_flat : zoom_of t b ≡ 0 → shutter_of t b ≡ 0
    sound_flat flat =
        let one : unit_of t c b ≡ 1 = rw flat (pow-zero c) in
        omega (arith, sound_shutter)

    pub sound_unit : 2 ≤ c → unit_of t c b ≤ 2 ^ 32 - 1
    sound_unit base = zoom_fits c base (zoom_of t b) sound_zoom

  pub sound_is : zoom_of t b ≤ max_zoom c → shutter_of t b < unit_of t c b → sound_of t c b ≡ true
  unfolding sound_of
  sound_is z s = simp (le-leb _ _ z, lt-ltb _ _ s)

  -- with nothing in the shutter only the zoom counts
  pub sound_empty : 2 ≤ c → zoom_of t b ≤ max_zoom c → shutter_of t b ≡ 0 → sound_of t c b ≡ true
  sound_empty base z s = sound_is z (rw s (one-le-pow (zoom_of t b) c (omega arith)))

  -- the two fields alone decide
  pub sound_read : (z s : ℕ) (r : Bool) → z ≡ zoom_of t b → s ≡ shutter_of t b → r ≡ (leb z (max_zoom c) && ltb s (c ^ z)) → r ≡ sound_of t c b
  unfolding sound_of
  sound_read z s r ez es er = er ∙ rw (es, ez)

  -- as the code judges
  pub sound_tested : (z s unit : ℕ) → z ≡ zoom_of t b → s ≡ shutter_of t b → unit ≡ unit_or_zero c z → ltb s unit ≡ sound_of t c b
  sound_tested z s unit ez es eu = sound_read z s (ltb s unit) ez es (fields_tested c z s unit eu)

  pub unit_held : sound_of t c b ≡ true → (z unit : ℕ) → z ≡ zoom_of t b → unit ≡ unit_or_zero c z → unit ≡ unit_of t c b
  unit_held sound z unit ez eu = eu ∙ rw ez (simp (le-leb _ _ (sound_zoom sound)))

-- as the workers read a sound cell
module _ (t c : ℕ) (b : List ℕ) (fit : Fit t c (length b)) (sound : sound_of t c b ≡ true) (z : ℕ) (zoom : z ≡ zoom_of t b) where
  pub unit_fits : c ^ z ≤ 2 ^ 32 - 1
  unit_fits = rw zoom (sound_unit t c b sound fit.c_low)

  pub judged_read : (s unit : ℕ) → s ≡ shutter_of t b → unit ≡ c ^ z → Judged t c b s unit
  judged_read s unit es eu = record { fit = fit; sound = sound; shutter_is = es; unit_is = eu ∙ rw zoom refl }
