-- Document 01, "Settings and cell": the bytes of a cell, and what they say.
use Rattle.std.specs.Prelude.{ℕ, ◌+◌, ◌*◌, ◌/◌, ◌%◌, ◌^◌, Bool, ◌&&◌, List, [], ◌∷◌, ◌++◌, leb, ltb, get_or, set, take, drop}
use Rattle.laws.specs.Powers.{highest}
use Rattle.laws.specs.Bytes.{number_of, bytes_of}
use Rattle.laws.specs.Parts.{part, splice}

-- THE LAYOUT, for t sub-windows: t + 2 pixels of one byte, the zoom (one byte), the shutter (four bytes), pad bytes
abbrev pub pixels_of : ℕ → ℕ
pixels_of t = t + 2

abbrev pub zoom_at : ℕ → ℕ
zoom_at t = t + 2

abbrev pub shutter_at : ℕ → ℕ
shutter_at t = t + 3

-- where the pad bytes begin
abbrev pub pad_at : ℕ → ℕ
pad_at t = t + 7

-- t + 7 rounded up to a multiple of 4
abbrev pub depth_of : ℕ → ℕ
depth_of t = (pad_at t + 3) / 4 * 4

-- sub-window n uses pixel n mod (t + 2)
abbrev pub slot_of : ℕ → ℕ → ℕ
slot_of t n = n % pixels_of t

-- READING
abbrev pub pixels_in : ℕ → List ℕ → List ℕ
pixels_in t b = take (pixels_of t) b

abbrev pub pixel_of : List ℕ → ℕ → ℕ
pixel_of b slot = get_or b slot 0

abbrev pub zoom_of : ℕ → List ℕ → ℕ
zoom_of t b = get_or b (zoom_at t) 0

unfoldable pub shutter_of : ℕ → List ℕ → ℕ
shutter_of t b = number_of (part (shutter_at t) 4 b)

-- what a pixel of the cell is worth: c ^ Z items
abbrev pub unit_of : ℕ → ℕ → List ℕ → ℕ
unit_of t c b = c ^ zoom_of t b

-- WRITING: each leaves all other bytes as they are
abbrev pub with_pixel : ℕ → ℕ → List ℕ → List ℕ
with_pixel slot v b = set b slot v

abbrev pub with_pixels : ℕ → List ℕ → List ℕ → List ℕ
with_pixels t pixels b = pixels ++ drop (pixels_of t) b

abbrev pub with_zoom : ℕ → ℕ → List ℕ → List ℕ
with_zoom t z b = set b (zoom_at t) z

unfoldable pub with_shutter : ℕ → ℕ → List ℕ → List ℕ
with_shutter t s b = splice (shutter_at t) 4 (bytes_of 4 s) b

-- MAX_ZOOM: the largest z with c ^ z ≤ 2 ^ 32 − 1; for c ≥ 2 it is 31 at the most
unfoldable pub max_zoom : ℕ → ℕ
max_zoom c = highest c 31

-- SOUND: Z ≤ max_zoom and s < c ^ Z
unfoldable pub sound_of : ℕ → ℕ → List ℕ → Bool
sound_of t c b = leb (zoom_of t b) (max_zoom c) && ltb (shutter_of t b) (unit_of t c b)

unfoldable pub sum_of : List ℕ → ℕ
sum_of [] = 0
sum_of (x ∷ xs) = x + sum_of xs

-- THE TOTAL: s + c ^ Z × the sum of the pixels
unfoldable pub total_of : ℕ → ℕ → List ℕ → ℕ
total_of t c b = shutter_of t b + unit_of t c b * sum_of (pixels_in t b)
