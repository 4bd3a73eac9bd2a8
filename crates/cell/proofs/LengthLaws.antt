-- A crossing leaves as many bytes, whether the cell is sound or not: zooming in writes pixels and zoom in their places. Assumes nothing.
use Prim.Native.Nat.{ℕ, zero, suc}
use mathlib.Core.Path.{◌≡◌, refl, ◌∙◌}
use mathlib.Core.List.{List}
use lib.Dec.{eqb}
use lib.ListN.{length, length-set}
use lib.Seq.{length_front}
use Rattle.laws.specs.Steps.{Step, still, leaving}
use Rattle.laws.proofs.ChoiceLaws.{either}
use Rattle.cell.specs.Cell.{pixels_of, zoom_at, pixels_in, zoom_of, with_pixels}
use Rattle.cell.specs.Crossing.{inside_of, ceiling_of, all_at_most, times_each, zoomed_in, zoom_in_from, zoom_in_of, cross_of}
use Rattle.cell.specs.Workers.{Fit}
use Rattle.cell.proofs.CrossingLaws.{inside_quiet, times_length}

zoomed_length : (t c z : ℕ) (b : List ℕ) → length (zoomed_in t c z b) ≡ length b
unfolding zoomed_in
zoomed_length t c z b = length-set (with_pixels t (times_each c (pixels_in t b)) b) (zoom_at t) z
    ∙ length_front b (times_each c (pixels_in t b)) (pixels_of t) (times_length c (pixels_in t b))

zoom_in_length : (t c z : ℕ) (b : List ℕ) → length (zoom_in_from t c z b) ≡ length b
unfolding zoom_in_from
zoom_in_length t c zero b = refl
zoom_in_length t c (suc z) b =
    either (λ l. length l ≡ length b) (all_at_most (ceiling_of c) (pixels_in t b)) (zoom_in_from t c z (zoomed_in t c z b)) b
    (λ e. zoom_in_length t c z (zoomed_in t c z b) ∙ zoomed_length t c z b) (λ e. refl)

pub cross_length : (t c n crossed : ℕ) (b : List ℕ) (σ : ℕ) → Fit t c (length b) → length (cross_of t c n crossed b σ).bytes ≡ length b
unfolding cross_of
cross_length t c n crossed b σ fit =
    let inside = inside_of t c n crossed b σ in
    either (λ (s : Step). length s.bytes ≡ length b) (eqb crossed 0) (still b σ) (leaving inside (zoom_in_of t c inside.bytes)) (λ e. refl)
    (λ e. zoom_in_length t c (zoom_of t inside.bytes) inside.bytes ∙ (inside_quiet t c n crossed b σ fit).kept.long)
