-- Document 01, "Merge" (`merge_cells`).
use Rattle.std.specs.Prelude.{ℕ, zero, suc, ◌+◌, ◌-◌, ◌/◌, ◌%◌, ◌^◌, min, max, cond, List, [], ◌∷◌, get_or, set}
use Rattle.laws.specs.Steps.{Step, still, leaving, later, made}
use Rattle.rounding.specs.declared.Divided.{Divided}
use Rattle.rounding.specs.Draws.{rounded_div}
use Rattle.cell.specs.Cell.{slot_of, pixels_in, zoom_of, shutter_of, with_pixels, with_zoom, with_shutter, max_zoom}
use Rattle.cell.specs.Insertion.{front, divide_each}
use Rattle.cell.specs.Crossing.{all_at_most}

-- a division before which so many draws were made
abbrev pub delayed : ℕ → Divided → Divided
delayed k d = record { value = d.value; state = d.state; draws = k + d.draws }

-- v divided by c with rounding, once for each missing level
unfoldable pub scale_down : ℕ → ℕ → ℕ → ℕ → Divided
scale_down c zero v σ = record { value = v; state = σ; draws = 0 }
scale_down c (suc levels) v σ = let d = rounded_div v c σ in delayed d.draws (scale_down c levels d.value d.state)

-- one pixel of dst and then one of src, each scaled down by its own levels, added
unfoldable pub add_pair : ℕ → ℕ → ℕ → ℕ → ℕ → ℕ → Divided
add_pair c down down' x y σ =
    let a = scale_down c down x σ in
    let b = scale_down c down' y a.state in
    record { value = a.value + b.value; state = b.state; draws = a.draws + b.draws }

-- pixel by pixel, in index order
unfoldable pub add_each : ℕ → ℕ → ℕ → List ℕ → List ℕ → ℕ → Step
add_each c down down' [] ys σ = still [] σ
add_each c down down' (x ∷ xs) [] σ = still [] σ
add_each c down down' (x ∷ xs) (y ∷ ys) σ =
    front (add_pair c down down' x y σ) (add_each c down down' xs ys (add_pair c down down' x y σ).state)

unfoldable pub cut_each : List ℕ → List ℕ
cut_each [] = []
cut_each (x ∷ xs) = min x 255 ∷ cut_each xs

-- the units that are cut off above 255, over all pixels (document 02, T-04)
unfoldable pub cut_off : List ℕ → ℕ
cut_off [] = 0
cut_off (x ∷ xs) = x - 255 + cut_off xs

-- sums that fit a byte each, with the zoom at which they do
pub record Settled : Type 0 where
  pub zoom : ℕ
  pub sums : Step

abbrev pub settled_later : ℕ → Settled → Settled
settled_later k r = record { zoom = r.zoom; sums = later k r.sums }

-- SETTLE, so many levels below max_zoom: while a sum exceeds 255, at max_zoom cut all to 255 and stop,
-- else raise the zoom by 1 and divide all sums by c with rounding
unfoldable pub settle_from : ℕ → ℕ → ℕ → List ℕ → ℕ → Settled
settle_from c zero z sums σ = record { zoom = z; sums = made (cut_each sums) σ 0 (cut_off sums) }
settle_from c (suc left) z sums σ =
    cond (all_at_most 255 sums)
    (record { zoom = z; sums = still sums σ })
    (let s = divide_each c sums σ in settled_later s.draws (settle_from c left (z + 1) s.bytes s.state))

abbrev pub settle_of : ℕ → ℕ → List ℕ → ℕ → Settled
settle_of c z sums σ = settle_from c (max_zoom c - z) z sums σ

-- the shutters' sum divided by c ^ target, rounded down, is added to the sum of the pixel of n
abbrev pub with_carry : ℕ → ℕ → List ℕ → List ℕ
with_carry slot carry sums = set sums slot (get_or sums slot 0 + carry)

-- the sums that become dst's pixels: pixel by pixel, with the carry, settled
unfoldable pub sums_of : ℕ → ℕ → ℕ → ℕ → ℕ → List ℕ → List ℕ → ℕ → Settled
sums_of t c target slot carry b src σ =
    let s = add_each c (target - zoom_of t b) (target - zoom_of t src) (pixels_in t b) (pixels_in t src) σ in
    settled_later s.draws (settle_of c target (with_carry slot carry s.bytes) s.state)

-- dst with the sums as its pixels, their zoom, and the shutters' remainder
abbrev pub merged_with : ℕ → ℕ → List ℕ → Settled → Step
merged_with t shutter b r = leaving r.sums (with_shutter t shutter (with_zoom t r.zoom (with_pixels t r.sums.bytes b)))

-- MERGE src into dst at sub-window n: target is the larger zoom
unfoldable pub merge_of : ℕ → ℕ → ℕ → List ℕ → List ℕ → ℕ → Step
merge_of t c n b src σ =
    let target = max (zoom_of t b) (zoom_of t src) in
    let shutters = shutter_of t b + shutter_of t src in
    merged_with t (shutters % c ^ target) b (sums_of t c target (slot_of t n) (shutters / c ^ target) b src σ)
