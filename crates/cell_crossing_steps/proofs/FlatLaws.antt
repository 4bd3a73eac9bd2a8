-- A cell of zoom 0 has nothing in its shutter and can't zoom in: a crossing that is no far jump clears pixels and does nothing else.
use Prim.Native.Nat.{ℕ, ◌+◌, ◌-◌, ◌<◌}
use mathlib.Core.Path.{◌≡◌, refl, sym, ◌∙◌}
use mathlib.Core.Bool.{true}
use mathlib.Core.List.{List}
use lib.ListN.{length}
use native.Mathlib.Omega.{arith}
use borrow.Author.Tests.{lt-leb, ne_eqb}
use Rattle.laws.specs.Steps.{still}
use Rattle.cell.specs.Cell.{pixels_of, slot_of, zoom_of, shutter_of, unit_of, sound_of}
use Rattle.cell.specs.Crossing.{close_of, clear_of, inside_of, zoom_in_from, zoom_in_of, cross_of}
use Rattle.cell.specs.Workers.{Fit}
use Rattle.cell.proofs.SoundLaws.{sound_flat}
use Rattle.cell.proofs.CellLaws.{with_shutter_none}
use Rattle.cell.proofs.CrossingLaws.{clear_zoom}
use Rattle.cell_crossing_steps.proofs.CrossingCases.{close_empty}

module _ (t c n crossed : ℕ) (b : List ℕ) (σ : ℕ) (fit : Fit t c (length b)) (sound : sound_of t c b ≡ true) (flat : zoom_of t b ≡ 0)
    (some : 0 < crossed) (near : crossed < pixels_of t) where
  none : shutter_of t b ≡ 0
  none = sound_flat t c b sound flat

  abbrev cleared : List ℕ
  cleared = clear_of t crossed (n - crossed + 1) b

  closed : close_of t c (slot_of t (n - crossed)) b σ ≡ still b σ
  closed = sym (close_empty t c (slot_of t (n - crossed)) b σ 0 (unit_of t c b) (sym none) refl b (sym (with_shutter_none t b fit.size_is none)) refl)

  inside : inside_of t c n crossed b σ ≡ still cleared σ
  unfolding inside_of
  inside = simp (lt-leb _ _ near) (rw closed refl)

  stays : zoom_in_of t c cleared ≡ cleared
  unfolding zoom_in_from
  stays =
      let z : zoom_of t cleared ≡ 0 = clear_zoom t crossed (n - crossed + 1) b ∙ flat in
      rw z refl

  pub flat_crossed : (l : List ℕ) → l ≡ clear_of t crossed (n - crossed + 1) b → still l σ ≡ cross_of t c n crossed b σ
  unfolding cross_of
  flat_crossed l e =
      let begun : crossed ≡ 0 → ⊥ = λ q. omega arith in
      rw e (sym (simp (ne_eqb _ _ begun) (rw (inside, stays) refl)))
