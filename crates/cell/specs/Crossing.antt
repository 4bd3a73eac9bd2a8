-- Document 01, "Crossing" (`enter_sub_window`), in its stages: close the shutter, clear, zoom in.
use Rattle.std.specs.Prelude.{ℕ, zero, suc, ◌+◌, ◌-◌, ◌*◌, ◌/◌, Bool, true, cond, ◌&&◌, List, [], ◌∷◌, leb, eqb, replicate}
use Rattle.laws.specs.Steps.{Step, still, leaving, later, made}
use Rattle.rounding.specs.declared.Divided.{Divided}
use Rattle.rounding.specs.Draws.{rounded_div}
use Rattle.cell.specs.Cell.{pixels_of, slot_of, pixels_in, zoom_of, shutter_of, unit_of, with_pixel, with_pixels, with_zoom, with_shutter}
use Rattle.cell.specs.Insertion.{credit_of}

-- what the rounded shutter does to a cell whose shutter is 0 by now: 1 credits the pixel, 0 leaves it
abbrev pub closed_with : ℕ → ℕ → ℕ → List ℕ → Divided → Step
closed_with t c slot b d =
    cond (eqb d.value 0) (made b d.state d.draws 0) (later d.draws (credit_of t c slot b d.state))

-- CLOSE: s becomes 0, and rounded division of s by c ^ Z (which draws nothing for s = 0) gives 0, or 1 for the pixel
unfoldable pub close_of : ℕ → ℕ → ℕ → List ℕ → ℕ → Step
close_of t c slot b σ = closed_with t c slot (with_shutter t 0 b) (rounded_div (shutter_of t b) (unit_of t c b) σ)

-- CLEAR: the pixels of k sub-windows from `first` on become 0
unfoldable pub clear_of : ℕ → ℕ → ℕ → List ℕ → List ℕ
clear_of t zero first b = b
clear_of t (suc k) first b = clear_of t k (first + 1) (with_pixel (slot_of t first) 0 b)

-- the FAR JUMP: pixels and shutter are zeroed with no draw
unfoldable pub emptied : ℕ → List ℕ → List ℕ
emptied t b = with_shutter t 0 (with_pixels t (replicate (pixels_of t) 0) b)

-- the sub-window that ends, and the first of those that begin
abbrev pub ended_of : ℕ → ℕ → ℕ
ended_of n crossed = n - crossed

abbrev pub begin_of : ℕ → ℕ → ℕ
begin_of n crossed = n - crossed + 1

-- what a cell holds inside a crossing to n, before it zooms in
unfoldable pub inside_of : ℕ → ℕ → ℕ → ℕ → List ℕ → ℕ → Step
inside_of t c n crossed b σ =
    cond (leb (pixels_of t) crossed)
    (still (emptied t b) σ)
    (let s = close_of t c (slot_of t (ended_of n crossed)) b σ in leaving s (clear_of t crossed (begin_of n crossed) s.bytes))

-- the highest pixel that still fits a byte when it is multiplied by c
unfoldable pub ceiling_of : ℕ → ℕ
ceiling_of c = 255 / c

unfoldable pub all_at_most : ℕ → List ℕ → Bool
all_at_most m [] = true
all_at_most m (x ∷ xs) = leb x m && all_at_most m xs

unfoldable pub times_each : ℕ → List ℕ → List ℕ
times_each c [] = []
times_each c (x ∷ xs) = x * c ∷ times_each c xs

-- one level in: all pixels times c, and the zoom z
unfoldable pub zoomed_in : ℕ → ℕ → ℕ → List ℕ → List ℕ
zoomed_in t c z b = with_zoom t z (with_pixels t (times_each c (pixels_in t b)) b)

-- ZOOM IN from the zoom Z: while Z > 0 and every pixel is at most floor(255 / c)
unfoldable pub zoom_in_from : ℕ → ℕ → ℕ → List ℕ → List ℕ
zoom_in_from t c zero b = b
zoom_in_from t c (suc z) b = cond (all_at_most (ceiling_of c) (pixels_in t b)) (zoom_in_from t c z (zoomed_in t c z b)) b

abbrev pub zoom_in_of : ℕ → ℕ → List ℕ → List ℕ
zoom_in_of t c b = zoom_in_from t c (zoom_of t b) b

-- CROSS to n by `crossed` sub-windows: by 0 does nothing
unfoldable pub cross_of : ℕ → ℕ → ℕ → ℕ → List ℕ → ℕ → Step
cross_of t c n crossed b σ =
    cond (eqb crossed 0) (still b σ)
    (let s = inside_of t c n crossed b σ in leaving s (zoom_in_of t c s.bytes))
