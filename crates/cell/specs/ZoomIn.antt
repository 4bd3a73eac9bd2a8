-- Document 02, T-11: how far a crossing zooms in. Document 01's own words for it are `zoom_in_from`: level by level, while every pixel fits. Here it is one number.
use Rattle.std.specs.Prelude.{ℕ, zero, suc, ◌+◌, ◌*◌, ◌^◌, ◌≤◌, ◌<◌, ◌≡◌, cond, List, leb, length, drop, get_or}
use Rattle.laws.specs.Sums.{largest}
use Rattle.laws.specs.Steps.{still}
use Rattle.refusal.specs.declared.Verdict.TheVariants.{Accepted}
use Rattle.cell.specs.declared.MicroParams.{MicroParams}
use Rattle.cell.specs.Cell.{pixels_of, pad_at, pixel_of, zoom_of, shutter_of, unit_of}
use Rattle.cell.specs.Crossing.{inside_of, cross_of}
use Rattle.cell.specs.Refusals.{cross_call}
use Rattle.cell.specs.Workers.{Fit}

-- the largest of all t + 2 pixels, that of the sub-window which no figure covers included
abbrev pub largest_pixel : ℕ → List ℕ → ℕ
largest_pixel t b = largest (t + 1) (pixel_of b)

-- the largest k, of 0 to z, with c ^ k × m ≤ 255
unfoldable pub levels_up_to : ℕ → ℕ → ℕ → ℕ
levels_up_to c m zero = 0
levels_up_to c m (suc z) = cond (leb (c ^ suc z * m) 255) (suc z) (levels_up_to c m z)

-- k, of a cell that is cleared: the largest k ≤ Z for which c ^ k × the largest pixel ≤ 255
abbrev pub levels_in : ℕ → ℕ → List ℕ → ℕ
levels_in t c b = levels_up_to c (largest_pixel t b) (zoom_of t b)

-- the cell as it is when clearing is done: closing the shutter may have raised its zoom
abbrev pub cleared_of : ℕ → ℕ → ℕ → ℕ → List ℕ → ℕ → List ℕ
cleared_of t c n crossed b σ = (inside_of t c n crossed b σ).bytes

-- THE LARGEST, without a search: k is at most z, c ^ k × m fits a byte, and no other such number is larger
pub record Largest (c m z k : ℕ) : Type 0 where
  pub at_most : k ≤ z
  pub fits : c ^ k * m ≤ 255
  pub no_more : (other : ℕ) → other ≤ z → c ^ other * m ≤ 255 → other ≤ k

-- Z FALLS BY EXACTLY k from the cell b, as it is when clearing is done, to what the crossing leaves
pub record FallsBy (t c k : ℕ) (b after : List ℕ) : Type 0 where
  pub largest_k : Largest c (largest_pixel t b) (zoom_of t b) k
  pub zoom : zoom_of t after + k ≡ zoom_of t b
  -- every pixel becomes c ^ k × itself, and so it is worth as many items as before
  pub pixels : (slot : ℕ) → slot < pixels_of t → pixel_of after slot ≡ c ^ k * pixel_of b slot
  pub worth : (slot : ℕ) → slot < pixels_of t → unit_of t c after * pixel_of after slot ≡ unit_of t c b * pixel_of b slot
  -- all pixels zero gives k = Z
  pub empty : ((slot : ℕ) → slot < pixels_of t → pixel_of b slot ≡ 0) → k ≡ zoom_of t b
  -- the shutter was closed before, and the pads stay
  pub shutter : shutter_of t after ≡ 0
  pub pads : drop (pad_at t) after ≡ drop (pad_at t) b

-- A CROSSING of the cell b leaves these bytes: by 0 it changes nothing, and a far jump leaves the zoom 0
pub record CrossesTo (t c n crossed : ℕ) (b : List ℕ) (σ : ℕ) (after : List ℕ) : Type 0 where
  pub by_none : crossed ≡ 0 → after ≡ b
  pub by_some : (crossed ≡ 0 → ⊥) → FallsBy t c (levels_in t c (cleared_of t c n crossed b σ)) (cleared_of t c n crossed b σ) after
  pub far : pixels_of t ≤ crossed → zoom_of t after ≡ 0

-- HOW FAR A CROSSING ZOOMS IN, whatever the seed, of every cell whose bytes are bytes
pub record ZoomInMeaning : Type 0 where
  -- of the definition, the cell sound or not
  pub crossing : (t c n crossed : ℕ) (b : List ℕ) (σ : ℕ) → Fit t c (length b) → ((i : ℕ) → get_or b i 0 ≤ 255)
      → CrossesTo t c n crossed b σ (cross_of t c n crossed b σ).bytes
  pub nothing : (t c n : ℕ) (b : List ℕ) (σ : ℕ) → cross_of t c n 0 b σ ≡ still b σ
  -- this leaves nothing open: as many bytes of which it holds are the crossing's
  pub closes : (t c n crossed : ℕ) (b : List ℕ) (σ : ℕ) → Fit t c (length b) → ((i : ℕ) → get_or b i 0 ≤ 255) → (after : List ℕ) → length after ≡ length b
      → CrossesTo t c n crossed b σ after → after ≡ (cross_of t c n crossed b σ).bytes
  -- of every call on one cell that is accepted
  pub call : (p : MicroParams) (n crossed : ℕ) (b : List ℕ) (σ : ℕ) → ((i : ℕ) → get_or b i 0 ≤ 255)
      → (cross_call p n crossed b σ).answer.verdict ≡ Accepted
      → CrossesTo p.t p.c n crossed b σ (cross_call p n crossed b σ).bytes
  -- the function gives such a number, and there is no other
  pub levels : (c m z : ℕ) → m ≤ 255 → Largest c m z (levels_up_to c m z)
  pub only : (c m z k : ℕ) → Largest c m z k → k ≡ levels_up_to c m z
