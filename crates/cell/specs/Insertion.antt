-- Document 01, "Insertion" (`insert`).
use Rattle.std.specs.Prelude.{ℕ, ◌+◌, cond, List, [], ◌∷◌, ltb, set}
use Rattle.laws.specs.Steps.{Step, still, leaving, made}
use Rattle.rounding.specs.declared.Divided.{Divided}
use Rattle.rounding.specs.Draws.{rounded_div}
use Rattle.cell.specs.Cell.{slot_of, pixels_in, pixel_of, zoom_of, shutter_of, unit_of, with_pixel, with_pixels, with_zoom, with_shutter, max_zoom}

-- a quotient, and then what is done to the numbers behind it
abbrev pub front : Divided → Step → Step
front d s = made (d.value ∷ s.bytes) s.state (d.draws + s.draws) s.lost

-- every number in order is divided by c with rounding, the random state passed on
unfoldable pub divide_each : ℕ → List ℕ → ℕ → Step
divide_each c [] σ = still [] σ
divide_each c (v ∷ vs) σ = front (rounded_div v c σ) (divide_each c vs (rounded_div v c σ).state)

-- a step that gives the pixels of b
abbrev pub pixel_step : ℕ → List ℕ → Step → Step
pixel_step t b s = leaving s (with_pixels t s.bytes b)

-- ZOOM OUT: Z gains 1 and every pixel in index order is divided by c with rounding, the credited one as 256
unfoldable pub zoom_out_of : ℕ → ℕ → ℕ → List ℕ → ℕ → Step
zoom_out_of t c slot b σ = pixel_step t (with_zoom t (zoom_of t b + 1) b) (divide_each c (set (pixels_in t b) slot 256) σ)

-- at 255 and max_zoom the unit is DROPPED: the cell stays as it is, and 1 is lost (document 02, T-04)
abbrev pub dropped : List ℕ → ℕ → Step
dropped b σ = made b σ 0 1

-- CREDIT a pixel. Below 255 it gains 1; at 255 with Z < max_zoom the cell zooms out; at 255 and max_zoom the unit is dropped
unfoldable pub credit_of : ℕ → ℕ → ℕ → List ℕ → ℕ → Step
credit_of t c slot b σ =
    cond (ltb (pixel_of b slot) 255)
    (still (with_pixel slot (pixel_of b slot + 1) b) σ)
    (cond (ltb (zoom_of t b) (max_zoom c)) (zoom_out_of t c slot b σ) (dropped b σ))

-- INSERT an item at sub-window n: s grows by 1; if it reaches c ^ Z it becomes 0 and the current pixel is credited
unfoldable pub insert_of : ℕ → ℕ → ℕ → List ℕ → ℕ → Step
insert_of t c n b σ =
    cond (ltb (shutter_of t b + 1) (unit_of t c b))
    (still (with_shutter t (shutter_of t b + 1) b) σ)
    (credit_of t c (slot_of t n) (with_shutter t 0 b) σ)
