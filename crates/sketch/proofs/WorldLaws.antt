-- What the calls keep of a sketch and its grid: each cell is changed by a step that keeps it sound, and a draw takes no nonzero state to 0.
use Prim.Native.Nat.{ℕ, zero, suc, ◌+◌, ◌*◌, ◌≤◌, ◌<◌}
use mathlib.Core.Path.{◌≡◌, refl, ◌∙◌}
use mathlib.Core.Bool.{true}
use mathlib.Core.List.{List, [], ◌∷◌}
use lib.Dec.{eqb}
use lib.ListN.{length, get_or, replicate, length-replicate, length-take, get_or-eq_default}
use native.Mathlib.Omega.{arith}
use native.Mathlib.Decide.{dec_lt}
use borrow.Author.Tests.{lt-ltb}
use Rattle.laws.specs.Bytes.{number_of}
use Rattle.laws.specs.Parts.{part}
use Rattle.laws.proofs.PartLaws.{part_at}
use Rattle.rounding.specs.Draws.{seeded}
use Rattle.rounding.proofs.StateLaws.{seeded_nonzero, after_nonzero}
use Rattle.cell.specs.declared.MicroParams.{MicroParams}
use Rattle.cell.specs.Cell.{zoom_at, shutter_at, depth_of, shutter_of, sound_of}
use Rattle.cell.specs.Workers.{Fit}
use Rattle.cell.proofs.SoundLaws.{sound_empty}
use Rattle.cell.proofs.InsertionLaws.{inserted}
use Rattle.clock.specs.declared.SubWindowClock.{SubWindowClock}
use Rattle.clock.specs.Clock.{n_of, crossed_of}
use Rattle.sketch.specs.declared.MicroCm.{MicroCm}
use Rattle.sketch.specs.Sketch.{cells_of, grid_bytes, cell_of, key_cells, count_from, all_cells, fresh_grid, World, insert_each, cross_each, recorded, moved}
use Rattle.sketch.specs.Refusals.{all_below, key_fits}
use Rattle.sketch.specs.Audit.{first_unsound}
use Rattle.sketch.proofs.SettingsLaws.{GoodSettings}
use Rattle.laws.proofs.ChoiceLaws.{both_hold}
use Rattle.sketch.proofs.AddressLaws.{key_rows}
use Rattle.sketch.proofs.KeyLaws.{KeyFrom, key_cells_below}
use Rattle.sketch.proofs.GridLaws.{below_first, below_rest, Holding, Fits, fits_cell, insert_each_length, insert_each_drawn, insert_each_keeps}
use Rattle.sketch.proofs.GridLaws.{cross_each_length, cross_each_sound, cross_each_drawn}

-- a grid of the right length, a state that is not 0, and every cell sound
pub record Good (k : MicroCm) (g : List ℕ) (σ : ℕ) : Type 0 where
  pub whole : length g ≡ grid_bytes k
  pub alive : σ ≡ 0 → ⊥
  pub sound : (j : ℕ) → j < cells_of k → sound_of k.params.t k.params.c (cell_of k g j) ≡ true

abbrev pub GoodWorld : World → Type 0
GoodWorld w = Good w.sketch w.grid w.sketch.rounding.state

-- a key with one column a row, each below cols
pub fits_key : (k : MicroCm) (key : List ℕ) → key_fits k key ≡ true → KeyFrom k 0 key
unfolding key_fits
fits_key k key fits = record { low = (both_hold (eqb (length key) k.rows) (all_below k.cols key) fits).1; few = omega (arith, key_rows k key fits) }

pub good_room : (k : MicroCm) (g : List ℕ) (σ : ℕ) → Good k g σ → Holding k g
good_room k g σ h = omega (arith, h.whole)

module _ (k : MicroCm) (g : List ℕ) (σ : ℕ) (fit : Fits k) (h : Good k g σ) where
  room : Holding k g
  room = good_room k g σ h

  -- RECORDING
  pub insert_each_good : (n : ℕ) (js : List ℕ) → all_below (cells_of k) js ≡ true → Good k (insert_each k n js g σ).bytes (insert_each k n js g σ).state
  insert_each_good n js low = record {
    whole = insert_each_length k fit n js g σ low room ∙ h.whole;
    alive = rw (insert_each_drawn k fit n js g σ low room) (after_nonzero (insert_each k n js g σ).draws σ h.alive);
    sound = insert_each_keeps k fit n (λ b. sound_of k.params.t k.params.c b ≡ true)
        (λ b τ e. (inserted k.params.t k.params.c n b τ (fits_cell k fit b e)).sound) js g σ low room h.sound;
  }

  -- CROSSING
  pub cross_each_good : (n crossed : ℕ) → Good k (cross_each k n crossed g σ).bytes (cross_each k n crossed g σ).state
  cross_each_good n crossed = record {
    whole = cross_each_length k fit n crossed g σ room ∙ h.whole;
    alive = rw (cross_each_drawn k fit n crossed g σ room h.sound) (after_nonzero (cross_each k n crossed g σ).draws σ h.alive);
    sound = cross_each_sound k fit n crossed g σ room h.sound;
  }

-- 14 NEVER ARISES: no cell of those judged is unsound
pub none_unsound {ℓ} : {A : Type ℓ} (found : ℕ → A) (none : A) (k : MicroCm) (g : List ℕ) (σ : ℕ) → Good k g σ → (js : List ℕ)
    → all_below (cells_of k) js ≡ true → first_unsound found none k g js ≡ none
unfolding first_unsound
none_unsound found none k g σ h [] low = refl
none_unsound found none k g σ h (j ∷ js) low = rw (h.sound j (below_first (cells_of k) j js low))
    (none_unsound found none k g σ h js (below_rest (cells_of k) j js low))

-- every cell in grid order is a cell of the grid
count_below : (m first count : ℕ) → first + count ≤ m → all_below m (count_from first count) ≡ true
unfolding count_from all_below
count_below m first zero h = refl
count_below m first (suc count) h =
    let l : first < m = omega arith in
    rw (lt-ltb first m l) (count_below m (suc first) count (omega arith))

pub all_cells_below : (k : MicroCm) → all_below (cells_of k) (all_cells k) ≡ true
all_cells_below k = count_below (cells_of k) 0 (cells_of k) (omega arith)

-- THE CALLS
module _ (w : World) (fit : Fits w.sketch) (h : GoodWorld w) where
  pub recorded_good : (key : List ℕ) → key_fits w.sketch key ≡ true → GoodWorld (recorded key w)
  unfolding recorded
  recorded_good key fits =
      let k = w.sketch in
      let s = insert_each_good k w.grid k.rounding.state fit h (n_of k.clock) (key_cells k 0 key) (key_cells_below k 0 key (fits_key k key fits)) in
      record { whole = s.whole; alive = s.alive; sound = s.sound }

  pub moved_good : (clock : SubWindowClock) → GoodWorld (moved clock w)
  unfolding moved
  moved_good clock =
      let k = w.sketch in
      let s = cross_each_good k w.grid k.rounding.state fit h (n_of clock) (crossed_of k.clock clock) in
      record { whole = s.whole; alive = s.alive; sound = s.sound }

-- A FRESH GRID: every byte of every cell is 0
part_zero : (a d : ℕ) (l : List ℕ) → ((i : ℕ) → get_or l i 0 ≡ 0) → (i : ℕ) → get_or (part a d l) i 0 ≡ 0
part_zero a d l zeros i = by (dec_lt i d)
  where
    by : Dec (i < d) → get_or (part a d l) i 0 ≡ 0
    by (yes h) = part_at a d l i h ∙ zeros (a + i)
    by (no h) = get_or-eq_default (part a d l) 0 (simp length-take (omega arith))

number_zero : (l : List ℕ) → ((i : ℕ) → get_or l i 0 ≡ 0) → number_of l ≡ 0
unfolding number_of
number_zero [] zeros = refl
number_zero (x ∷ xs) zeros = omega (arith, zeros 0, number_zero xs (λ i. zeros (suc i)))

zeros_zero : (n i : ℕ) → get_or {A = ℕ} (replicate n 0) i 0 ≡ 0
zeros_zero zero i = refl
zeros_zero (suc n) zero = refl
zeros_zero (suc n) (suc i) = zeros_zero n i

module _ (k : MicroCm) where
  pub fresh_byte : (j i : ℕ) → get_or (cell_of k (fresh_grid k) j) i 0 ≡ 0
  fresh_byte j = part_zero (j * depth_of k.params.t) (depth_of k.params.t) (fresh_grid k) (zeros_zero (grid_bytes k))

  pub fresh_shutter : (j : ℕ) → shutter_of k.params.t (cell_of k (fresh_grid k) j) ≡ 0
  unfolding shutter_of
  fresh_shutter j =
      let b = cell_of k (fresh_grid k) j in
      number_zero (part (shutter_at k.params.t) 4 b) (part_zero (shutter_at k.params.t) 4 b (fresh_byte j))

  pub fresh_good : Fits k → (seed : ℕ) → Good k (fresh_grid k) (seeded seed)
  fresh_good fit seed = record {
    whole = length-replicate (grid_bytes k) 0;
    alive = seeded_nonzero seed;
    sound = λ j l. sound_empty k.params.t k.params.c (cell_of k (fresh_grid k) j) fit.c_low
        (rw (fresh_byte j (zoom_at k.params.t)) (omega arith)) (fresh_shutter j);
  }

-- accepted settings give a cell its depth
pub settings_fit : (rows cols : ℕ) (p : MicroParams) (clock : SubWindowClock) → GoodSettings rows cols p clock → Fit p.t p.c (depth_of p.t)
settings_fit rows cols p clock h = h.fit
