-- Document 02, T-04: which units are lost, of one cell, and what that means for its total.
use Rattle.std.specs.Prelude.{ℕ, zero, suc, ◌+◌, ◌-◌, ◌*◌, ◌/◌, ◌^◌, ◌≤◌, ◌<◌, max, ◌≡◌, Bool, true, false, cond, ◌&&◌, List, leb, ltb, length}
use Rattle.refusal.specs.declared.Verdict.TheVariants.{Accepted}
use Rattle.refusal.specs.Refusals.{is_accepted}
use Rattle.rounding.specs.Draws.{rounded_div}
use Rattle.cell.specs.declared.MicroParams.{MicroParams}
use Rattle.cell.specs.Cell.{pixels_of, slot_of, pixels_in, pixel_of, zoom_of, shutter_of, unit_of, max_zoom, sound_of, sum_of, total_of}
use Rattle.cell.specs.Insertion.{divide_each, dropped, credit_of, insert_of}
use Rattle.cell.specs.Crossing.{ended_of, all_at_most, cross_of}
use Rattle.cell.specs.Merge.{add_each, with_carry, cut_each, merge_of}
use Rattle.cell.specs.Refusals.{CellOutcome, insert_call, cross_call, merge_call}
use Rattle.cell.specs.Workers.{Fit}

-- NO ROOM for a unit: the pixel is full, and the cell is at max_zoom, so that it cannot zoom out
abbrev pub no_room : ℕ → ℕ → ℕ → List ℕ → Bool
no_room t c slot b = leb 255 (pixel_of b slot) && leb (max_zoom c) (zoom_of t b)

-- an item of sub-window n costs a unit: with it the shutter makes a whole one, and the pixel of n has no room
abbrev pub loses_item : ℕ → ℕ → ℕ → List ℕ → Bool
loses_item t c n b = leb (unit_of t c b) (shutter_of t b + 1) && no_room t c (slot_of t n) b

-- a crossing to n costs a unit: it is no far jump, the shutter is closed to 1, and the pixel of the sub-window that ends has no room
abbrev pub loses_closing : ℕ → ℕ → ℕ → ℕ → List ℕ → ℕ → Bool
loses_closing t c n crossed b σ =
    ltb 0 crossed
    && (ltb crossed (pixels_of t) && (ltb 0 (rounded_div (shutter_of t b) (unit_of t c b) σ).value && no_room t c (slot_of t (ended_of n crossed)) b))

abbrev pub one_if : Bool → ℕ
one_if lost = cond lost 1 0

-- A MERGE'S SUMS as they are when the zoom is raised no more, and before any is cut: raised while one exceeds 255, so many levels below max_zoom
unfoldable pub raised_from : ℕ → ℕ → List ℕ → ℕ → List ℕ
raised_from c zero sums σ = sums
raised_from c (suc left) sums σ =
    cond (all_at_most 255 sums) sums (let s = divide_each c sums σ in raised_from c left s.bytes s.state)

abbrev pub uncut_sums : ℕ → ℕ → ℕ → List ℕ → List ℕ → ℕ → List ℕ
uncut_sums t c n b src σ =
    let target = max (zoom_of t b) (zoom_of t src) in
    let s = add_each c (target - zoom_of t b) (target - zoom_of t src) (pixels_in t b) (pixels_in t src) σ in
    raised_from c (max_zoom c - target) (with_carry (slot_of t n) ((shutter_of t b + shutter_of t src) / c ^ target) s.bytes) s.state

-- THE BALANCE: the total afterwards, and c ^ Z items for each unit that is lost, make so many items; Z is the zoom afterwards
abbrev pub Balances : (t c : ℕ) (after : List ℕ) (lost items : ℕ) → Type 0
Balances t c after lost items = total_of t c after + c ^ zoom_of t after * lost ≡ items

-- TWO CELLS MERGED
pub record MergeLoses (t c n : ℕ) (b src : List ℕ) (σ : ℕ) : Type 0 where
  -- the pixels are the sums, each cut to 255, and what was cut off is lost
  pub pixels : pixels_in t (merge_of t c n b src σ).bytes ≡ cut_each (uncut_sums t c n b src σ)
  pub sums : sum_of (uncut_sums t c n b src σ) ≡ sum_of (pixels_in t (merge_of t c n b src σ).bytes) + (merge_of t c n b src σ).lost
  -- below max_zoom nothing is cut
  pub below_top : zoom_of t (merge_of t c n b src σ).bytes < max_zoom c → (merge_of t c n b src σ).lost ≡ 0
  -- two of one zoom that keep it: nothing is rounded, and no item is lost but those of the lost units
  pub balance : zoom_of t src ≡ zoom_of t b → zoom_of t (merge_of t c n b src σ).bytes ≡ zoom_of t b
      → Balances t c (merge_of t c n b src σ).bytes (merge_of t c n b src σ).lost (total_of t c b + total_of t c src)

-- a call that is refused loses nothing
abbrev pub RefusedLoses : CellOutcome → Type 0
RefusedLoses o = is_accepted o.answer.verdict ≡ false → o.answer.lost ≡ 0

-- WHAT IS LOST, and what is not, whatever the seed
pub record LostMeaning : Type 0 where
  -- crediting says whether it dropped its unit: it did exactly where there is no room, and then it did nothing else
  pub credit : (t c slot : ℕ) (b : List ℕ) (σ : ℕ) → (credit_of t c slot b σ).lost ≡ one_if (no_room t c slot b)
  pub drops : (t c slot : ℕ) (b : List ℕ) (σ : ℕ) → 255 ≤ pixel_of b slot → max_zoom c ≤ zoom_of t b → credit_of t c slot b σ ≡ dropped b σ
  -- an insertion and a crossing pass that on, and lose nothing else
  pub insertion : (t c n : ℕ) (b : List ℕ) (σ : ℕ) → Fit t c (length b) → (insert_of t c n b σ).lost ≡ one_if (loses_item t c n b)
  pub crossing : (t c n crossed : ℕ) (b : List ℕ) (σ : ℕ) → Fit t c (length b) → (cross_of t c n crossed b σ).lost ≡ one_if (loses_closing t c n crossed b σ)
  -- document 02: for an insertion that doesn't raise the zoom, the total afterwards plus c ^ Z × lost equals the total before plus 1
  pub balance : (t c n : ℕ) (b : List ℕ) (σ : ℕ) → Fit t c (length b) → sound_of t c b ≡ true → zoom_of t (insert_of t c n b σ).bytes ≡ zoom_of t b
      → Balances t c (insert_of t c n b σ).bytes (insert_of t c n b σ).lost (total_of t c b + 1)
  -- one that raises it loses nothing: it rounds
  pub raise : (t c n : ℕ) (b : List ℕ) (σ : ℕ) → Fit t c (length b) → zoom_of t b < zoom_of t (insert_of t c n b σ).bytes → (insert_of t c n b σ).lost ≡ 0
  -- of every call that is accepted, and there is no other number of which it holds
  pub call : (p : MicroParams) (n : ℕ) (b : List ℕ) (σ : ℕ) → (insert_call p n b σ).answer.verdict ≡ Accepted
      → zoom_of p.t (insert_call p n b σ).bytes ≡ zoom_of p.t b
      → Balances p.t p.c (insert_call p n b σ).bytes (insert_call p n b σ).answer.lost (total_of p.t p.c b + 1)
  pub only : (t c : ℕ) (after : List ℕ) (lost other items : ℕ) → 2 ≤ c → Balances t c after lost items → Balances t c after other items → lost ≡ other
  -- two sound cells merged
  pub merge : (t c n : ℕ) (b src : List ℕ) (σ : ℕ) → Fit t c (length b) → Fit t c (length src) → sound_of t c b ≡ true → sound_of t c src ≡ true
      → MergeLoses t c n b src σ
  -- what is not at max_zoom loses nothing
  pub insertion_below_top : (t c n : ℕ) (b : List ℕ) (σ : ℕ) → Fit t c (length b) → zoom_of t b < max_zoom c → (insert_of t c n b σ).lost ≡ 0
  pub crossing_below_top : (t c n crossed : ℕ) (b : List ℕ) (σ : ℕ) → Fit t c (length b) → zoom_of t b < max_zoom c
      → (cross_of t c n crossed b σ).lost ≡ 0
  pub refused_insertion : (p : MicroParams) (n : ℕ) (b : List ℕ) (σ : ℕ) → RefusedLoses (insert_call p n b σ)
  pub refused_crossing : (p : MicroParams) (n crossed : ℕ) (b : List ℕ) (σ : ℕ) → RefusedLoses (cross_call p n crossed b σ)
  pub refused_merge : (p : MicroParams) (n : ℕ) (b src : List ℕ) (σ : ℕ) → RefusedLoses (merge_call p n b src σ)
