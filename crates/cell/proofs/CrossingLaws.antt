-- What a crossing leaves of a cell, stage by stage: closing and the far jump leave the shutter 0, and no later stage
-- touches it, so that the zoom alone decides whether the cell is sound. Assumes nothing.
use Prim.Native.Nat.{ℕ, zero, suc, ◌+◌, ◌≤◌, ◌<◌}
use mathlib.Core.Path.{◌≡◌, refl, ap, ◌∙◌}
use mathlib.Core.Bool.{true}
use mathlib.Core.List.{List, [], ◌∷◌}
use lib.Dec.{leb, eqb}
use lib.ListN.{length, replicate, length-replicate}
use lib.Seq.{length-take-le}
use native.Mathlib.Omega.{arith}
use borrow.Author.Tests.{le-leb, ne_eqb}
use Rattle.laws.specs.Steps.{Step, still, leaving, later, made}
use Rattle.laws.proofs.ChoiceLaws.{either}
use Rattle.rounding.specs.declared.Divided.{Divided}
use Rattle.rounding.specs.Draws.{state_after, rounded_div}
use Rattle.rounding.proofs.DivisionLaws.{draws_le, state_is}
use Rattle.cell.specs.Cell.{pixels_of, depth_of, slot_of, pixels_in, zoom_of, shutter_of, unit_of, with_pixel, with_pixels, with_shutter, max_zoom, sound_of}
use Rattle.cell.specs.Insertion.{credit_of}
use Rattle.cell.specs.Crossing.{close_of, clear_of, emptied, ended_of, begin_of, inside_of, cross_of}
use Rattle.cell.specs.Crossing.{ceiling_of, all_at_most, times_each, zoomed_in, zoom_in_from, zoom_in_of}
use Rattle.cell.specs.Workers.{Fit}
use Rattle.laws.proofs.SmallLaws.{Small}
use Rattle.cell.proofs.CellLaws.{Kept, kept_same, kept_then, slot_inside, with_pixel_zoom, with_pixel_shutter, with_pixel_kept}
use Rattle.cell.proofs.CellLaws.{with_zoom_zoom, with_zoom_shutter, with_zoom_kept, with_pixels_zoom, with_pixels_shutter, with_pixels_kept}
use Rattle.cell.proofs.CellLaws.{with_shutter_shutter, with_shutter_zoom, with_shutter_kept}
use Rattle.cell.proofs.PowerLaws.{max_zoom_limit}
use Rattle.cell.proofs.SoundLaws.{sound_zoom, sound_empty}
use Rattle.cell.proofs.InsertionLaws.{Credited, credited}
use Rattle.cell.proofs.AtMostLaws.{most_cons, ceiling_fits}
use Rattle.cell.proofs.SumsLaws.{after_then}

-- what a crossing leaves before it zooms in, and each stage up to there
pub record Quiet (t c : ℕ) (b : List ℕ) (σ : ℕ) (s : Step) : Type 0 where
  pub kept : Kept t b s.bytes
  pub shutter : shutter_of t s.bytes ≡ 0
  pub zoom_low : zoom_of t b ≤ max_zoom c → zoom_of t s.bytes ≤ max_zoom c
  pub zoom_ge : zoom_of t b ≤ zoom_of t s.bytes
  pub zoom_le : zoom_of t s.bytes ≤ zoom_of t b + 1
  pub state : s.state ≡ state_after s.draws σ
  pub draws : s.draws ≤ t + 3
  pub lost : s.lost ≤ 1
  pub lost_below : zoom_of t b < max_zoom c → s.lost ≡ 0

-- CLOSE
module _ (t c slot : ℕ) (b : List ℕ) (σ : ℕ) (fit : Fit t c (length b)) (inside : slot < pixels_of t) where
  abbrev rounded : Divided
  rounded = rounded_div (shutter_of t b) (unit_of t c b) σ

  shut_kept : Kept t b (with_shutter t 0 b)
  shut_kept = with_shutter_kept t 0 b fit.size_is

  shut_zoom : zoom_of t (with_shutter t 0 b) ≡ zoom_of t b
  shut_zoom = with_shutter_zoom t 0 b fit.size_is

  shut_shutter : shutter_of t (with_shutter t 0 b) ≡ 0
  shut_shutter = with_shutter_shutter t 0 b fit.size_is (omega arith)

  shut_credited : Credited t c (with_shutter t 0 b) rounded.state (credit_of t c slot (with_shutter t 0 b) rounded.state)
  shut_credited = credited t c slot (with_shutter t 0 b) rounded.state (rw shut_kept.long fit) inside

  pub closed : Quiet t c b σ (close_of t c slot b σ)
  unfolding close_of
  closed =
      either (Quiet t c b σ) (eqb rounded.value 0) (made (with_shutter t 0 b) rounded.state rounded.draws 0)
      (later rounded.draws (credit_of t c slot (with_shutter t 0 b) rounded.state))
      (λ e. record {
        kept = shut_kept;
        shutter = shut_shutter;
        zoom_low = λ h. rw shut_zoom h;
        zoom_ge = omega (arith, shut_zoom);
        zoom_le = omega (arith, shut_zoom);
        state = state_is (shutter_of t b) (unit_of t c b) σ;
        draws = omega (arith, draws_le (shutter_of t b) (unit_of t c b) σ);
        lost = omega arith;
        lost_below = λ l. refl;
      })
      (λ e. record {
        kept = kept_then t b (with_shutter t 0 b) _ shut_kept shut_credited.kept;
        shutter = shut_credited.shutter ∙ shut_shutter;
        zoom_low = λ h. shut_credited.zoom_low (rw shut_zoom h);
        zoom_ge = omega (arith, shut_zoom, shut_credited.zoom_ge);
        zoom_le = omega (arith, shut_zoom, shut_credited.zoom_le);
        state = shut_credited.state ∙ after_then rounded.draws _ σ rounded.state (state_is (shutter_of t b) (unit_of t c b) σ);
        draws = omega (arith, draws_le (shutter_of t b) (unit_of t c b) σ, shut_credited.draws);
        lost = shut_credited.lost;
        lost_below = λ l. shut_credited.lost_below (rw shut_zoom l);
      })

-- CLEAR
module _ (t : ℕ) where
  pub clear_kept : (k first : ℕ) (b : List ℕ) → Kept t b (clear_of t k first b)
  unfolding clear_of
  clear_kept zero first b = kept_same t b
  clear_kept (suc k) first b =
      let next : List ℕ = with_pixel (slot_of t first) 0 b in
      let one : Kept t b next = with_pixel_kept t (slot_of t first) 0 b (slot_inside t first) (omega arith) in
      kept_then t b next (clear_of t k (first + 1) next) one (clear_kept k (first + 1) next)

  pub clear_zoom : (k first : ℕ) (b : List ℕ) → zoom_of t (clear_of t k first b) ≡ zoom_of t b
  unfolding clear_of
  clear_zoom zero first b = refl
  clear_zoom (suc k) first b = clear_zoom k (first + 1) (with_pixel (slot_of t first) 0 b) ∙ with_pixel_zoom t (slot_of t first) 0 b (slot_inside t first)

  pub clear_shutter : (k first : ℕ) (b : List ℕ) → shutter_of t (clear_of t k first b) ≡ shutter_of t b
  unfolding clear_of
  clear_shutter zero first b = refl
  clear_shutter (suc k) first b = clear_shutter k (first + 1) (with_pixel (slot_of t first) 0 b) ∙ with_pixel_shutter t (slot_of t first) 0 b (slot_inside t first)

-- THE FAR JUMP
zeros_small : (n : ℕ) → Small (replicate n 0)
zeros_small zero i = omega arith
zeros_small (suc n) zero = omega arith
zeros_small (suc n) (suc i) = zeros_small n i

module _ (t c : ℕ) (b : List ℕ) (fit : Fit t c (length b)) where
  abbrev zeroed : List ℕ
  zeroed = with_pixels t (replicate (pixels_of t) 0) b

  zeroed_kept : Kept t b zeroed
  zeroed_kept =
      with_pixels_kept t (replicate (pixels_of t) 0) b (length-replicate (pixels_of t) 0) b (kept_same t b) fit.size_is
      (λ h. zeros_small (pixels_of t))

  pub zeroed_size : length zeroed ≡ depth_of t
  zeroed_size = zeroed_kept.long ∙ fit.size_is

  pub emptied_zoom : zoom_of t (emptied t b) ≡ zoom_of t b
  unfolding emptied
  emptied_zoom = with_shutter_zoom t 0 zeroed zeroed_size ∙ with_pixels_zoom t (replicate (pixels_of t) 0) b (length-replicate (pixels_of t) 0)

  emptied_quiet : (σ : ℕ) → Quiet t c b σ (still (emptied t b) σ)
  unfolding emptied state_after
  emptied_quiet σ = record {
    kept = kept_then t b zeroed (emptied t b) zeroed_kept (with_shutter_kept t 0 zeroed zeroed_size);
    shutter = with_shutter_shutter t 0 zeroed zeroed_size (omega arith);
    zoom_low = λ h. rw emptied_zoom h;
    zoom_ge = omega (arith, emptied_zoom);
    zoom_le = omega (arith, emptied_zoom);
    state = refl;
    draws = omega arith;
    lost = omega arith;
    lost_below = λ l. refl;
  }

-- UP TO THE ZOOMING IN
module _ (t c n crossed : ℕ) (b : List ℕ) (σ : ℕ) (fit : Fit t c (length b)) where
  abbrev shut : Step
  shut = close_of t c (slot_of t (ended_of n crossed)) b σ

  shut_quiet : Quiet t c b σ shut
  shut_quiet = closed t c (slot_of t (ended_of n crossed)) b σ fit (slot_inside t (ended_of n crossed))

  pub inside_quiet : Quiet t c b σ (inside_of t c n crossed b σ)
  unfolding inside_of
  inside_quiet =
      let z : zoom_of t (clear_of t crossed (begin_of n crossed) shut.bytes) ≡ zoom_of t shut.bytes =
      clear_zoom t crossed (begin_of n crossed) shut.bytes
      in
      either (Quiet t c b σ) (leb (pixels_of t) crossed) (still (emptied t b) σ) (leaving shut (clear_of t crossed (begin_of n crossed) shut.bytes))
      (λ e. emptied_quiet t c b fit σ)
      (λ e. record {
        kept = kept_then t b shut.bytes _ shut_quiet.kept (clear_kept t crossed (begin_of n crossed) shut.bytes);
        shutter = clear_shutter t crossed (begin_of n crossed) shut.bytes ∙ shut_quiet.shutter;
        zoom_low = λ h. rw z (shut_quiet.zoom_low h);
        zoom_ge = omega (arith, shut_quiet.zoom_ge);
        zoom_le = omega (arith, shut_quiet.zoom_le);
        state = shut_quiet.state;
        draws = shut_quiet.draws;
        lost = shut_quiet.lost;
        lost_below = shut_quiet.lost_below;
      })

-- ZOOM IN
pub times_length : (c : ℕ) (l : List ℕ) → length (times_each c l) ≡ length l
unfolding times_each
times_length c [] = refl
times_length c (x ∷ xs) = ap suc (times_length c xs)

times_small : (c : ℕ) (l : List ℕ) → all_at_most (ceiling_of c) l ≡ true → Small (times_each c l)
unfolding times_each
times_small c [] e i = omega arith
times_small c (x ∷ xs) e zero = omega (arith, ceiling_fits c x (most_cons (ceiling_of c) x xs e).0)
times_small c (x ∷ xs) e (suc i) = times_small c xs (most_cons (ceiling_of c) x xs e).1 i

module _ (t c z : ℕ) (b : List ℕ) (fit : Fit t c (length b)) where
  abbrev grown : List ℕ
  grown = with_pixels t (times_each c (pixels_in t b)) b

  grown_length : length (times_each c (pixels_in t b)) ≡ pixels_of t
  grown_length = times_length c (pixels_in t b) ∙ length-take-le (t + 2) b (omega (arith, fit.size_is))

  grown_kept : all_at_most (ceiling_of c) (pixels_in t b) ≡ true → Kept t b grown
  grown_kept low = with_pixels_kept t (times_each c (pixels_in t b)) b grown_length b (kept_same t b) fit.size_is (λ h. times_small c (pixels_in t b) low)

  pub zoomed_kept : all_at_most (ceiling_of c) (pixels_in t b) ≡ true → z < 256 → Kept t b (zoomed_in t c z b)
  unfolding zoomed_in
  zoomed_kept low h = kept_then t b grown (zoomed_in t c z b) (grown_kept low) (with_zoom_kept t z grown h)

  pub zoomed_zoom : all_at_most (ceiling_of c) (pixels_in t b) ≡ true → zoom_of t (zoomed_in t c z b) ≡ z
  unfolding zoomed_in
  zoomed_zoom low = with_zoom_zoom t z grown ((grown_kept low).long ∙ fit.size_is)

  pub zoomed_shutter : shutter_of t (zoomed_in t c z b) ≡ shutter_of t b
  unfolding zoomed_in
  zoomed_shutter = with_zoom_shutter t z grown ∙ with_pixels_shutter t (times_each c (pixels_in t b)) b grown_length

-- what zooming in leaves, at whatever zoom it stops
pub record ZoomedIn (t : ℕ) (b b' : List ℕ) : Type 0 where
  pub kept : Kept t b b'
  pub shutter : shutter_of t b' ≡ shutter_of t b
  pub zoom_le : zoom_of t b' ≤ zoom_of t b

pub zoom_in_leaves : (t c z : ℕ) (b : List ℕ) → Fit t c (length b) → z ≤ zoom_of t b → z < 256 → ZoomedIn t b (zoom_in_from t c z b)
unfolding zoom_in_from
zoom_in_leaves t c zero b fit h short = record { kept = kept_same t b; shutter = refl; zoom_le = omega arith }
zoom_in_leaves t c (suc z) b fit h short =
    let b' : List ℕ = zoomed_in t c z b in
    either (ZoomedIn t b) (all_at_most (ceiling_of c) (pixels_in t b)) (zoom_in_from t c z b') b
    (λ e.
    let k : Kept t b b' = zoomed_kept t c z b fit e (omega arith) in
    let q : zoom_of t b' ≡ z = zoomed_zoom t c z b fit e in
    let w : ZoomedIn t b' (zoom_in_from t c z b') = zoom_in_leaves t c z b' (rw k.long fit) (omega arith) (omega arith) in
    record { kept = kept_then t b b' _ k w.kept; shutter = w.shutter ∙ zoomed_shutter t c z b fit; zoom_le = omega (arith, w.zoom_le) })
    (λ e. record { kept = kept_same t b; shutter = refl; zoom_le = omega arith })

-- THE CROSSING
pub record Crossed (t c : ℕ) (b : List ℕ) (σ : ℕ) (s : Step) : Type 0 where
  pub kept : Kept t b s.bytes
  pub sound : sound_of t c s.bytes ≡ true
  pub zoom_le : zoom_of t s.bytes ≤ zoom_of t b + 1
  pub state : s.state ≡ state_after s.draws σ
  pub draws : s.draws ≤ t + 3
  pub lost : s.lost ≤ 1
  pub lost_below : zoom_of t b < max_zoom c → s.lost ≡ 0

module _ (t c n crossed : ℕ) (b : List ℕ) (σ : ℕ) (fit : Fit t c (length b)) (sound : sound_of t c b ≡ true) where
  abbrev within : Step
  within = inside_of t c n crossed b σ

  quiet : Quiet t c b σ within
  quiet = inside_quiet t c n crossed b σ fit

  low : zoom_of t within.bytes ≤ max_zoom c
  low = quiet.zoom_low (sound_zoom t c b sound)

  shrunk : ZoomedIn t within.bytes (zoom_in_of t c within.bytes)
  shrunk = zoom_in_leaves t c (zoom_of t within.bytes) within.bytes (rw quiet.kept.long fit) (omega arith) (omega (arith, low, max_zoom_limit c))

  pub crossed_leaves : Crossed t c b σ (cross_of t c n crossed b σ)
  unfolding cross_of state_after
  crossed_leaves =
      either (Crossed t c b σ) (eqb crossed 0) (still b σ) (leaving within (zoom_in_of t c within.bytes))
      (λ e. record {
        kept = kept_same t b;
        sound = sound;
        zoom_le = omega arith;
        state = refl;
        draws = omega arith;
        lost = omega arith;
        lost_below = λ l. refl;
      })
      (λ e. record {
        kept = kept_then t b within.bytes _ quiet.kept shrunk.kept;
        sound = sound_empty t c (zoom_in_of t c within.bytes) fit.c_low (omega (arith, low, shrunk.zoom_le)) (shrunk.shutter ∙ quiet.shutter);
        zoom_le = omega (arith, quiet.zoom_le, shrunk.zoom_le);
        state = quiet.state;
        draws = quiet.draws;
        lost = quiet.lost;
        lost_below = quiet.lost_below;
      })

-- sound or not, a cell below max_zoom loses nothing
pub cross_lost_below : (t c n crossed : ℕ) (b : List ℕ) (σ : ℕ) → Fit t c (length b) → zoom_of t b < max_zoom c → (cross_of t c n crossed b σ).lost ≡ 0
unfolding cross_of
cross_lost_below t c n crossed b σ fit h =
    let s = inside_of t c n crossed b σ in
    either (λ (r : Step). r.lost ≡ 0) (eqb crossed 0) (still b σ) (leaving s (zoom_in_of t c s.bytes)) (λ e. refl)
    (λ e. (inside_quiet t c n crossed b σ fit).lost_below h)

-- a far jump draws nothing
pub inside_far : (t c n crossed : ℕ) (b : List ℕ) (σ : ℕ) → pixels_of t ≤ crossed → inside_of t c n crossed b σ ≡ still (emptied t b) σ
unfolding inside_of
inside_far t c n crossed b σ h = simp (le-leb _ _ h)

pub cross_far : (t c n crossed : ℕ) (b : List ℕ) (σ : ℕ) → pixels_of t ≤ crossed → cross_of t c n crossed b σ ≡ still (zoom_in_of t c (emptied t b)) σ
unfolding cross_of
cross_far t c n crossed b σ h = simp (ne_eqb _ _ (λ (e : crossed ≡ 0). omega arith), inside_far t c n crossed b σ h)
