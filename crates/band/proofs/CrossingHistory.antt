-- A crossing keeps what a cell knows of its history: each stage (close, clear or jump, zoom in) is a step of the heart.
use Prim.Native.Nat.{ℕ, zero, suc, ◌+◌, ◌≤◌, ◌<◌}
use mathlib.Core.Path.{◌≡◌, refl, sym, ◌∙◌}
use mathlib.Core.Bool.{true}
use mathlib.Core.List.{List}
use lib.Dec.{leb, eqb}
use lib.ListN.{length}
use native.Mathlib.Omega.{arith}
use native.Mathlib.Decide.{ℕ_discrete}
use native.Mathlib.Nat.{add-zero, add-sub_cancel, mul-zero, one-le-pow}
use borrow.Author.Tests.{leb-true, leb-false, eqb-true, eqb-false}
use Rattle.laws.specs.Steps.{Step, still, leaving, later, made}
use Rattle.laws.proofs.ChoiceLaws.{either}
use Rattle.rounding.specs.declared.Divided.{Divided}
use Rattle.rounding.specs.Draws.{rounded_div}
use Rattle.cell.specs.Cell.{pixels_of, slot_of, pixels_in, pixel_of, zoom_of, shutter_of, unit_of, with_shutter, max_zoom}
use Rattle.cell.specs.Insertion.{credit_of}
use Rattle.cell.specs.Crossing.{close_of, clear_of, emptied, inside_of, ceiling_of, all_at_most, zoomed_in, zoom_in_from, zoom_in_of, cross_of}
use Rattle.cell.specs.Workers.{Fit}
use Rattle.laws.proofs.SmallLaws.{Small}
use Rattle.cell.proofs.CellLaws.{slot_inside}
use Rattle.cell.proofs.PowerLaws.{max_zoom_limit}
use Rattle.cell.proofs.CrossingLaws.{closed, inside_quiet, clear_zoom, emptied_zoom, zoomed_kept, zoomed_zoom, zoomed_shutter}
use Rattle.cell.proofs.PixelLaws.{clear_other, clear_here, emptied_pixel, zoomed_pixel}
use Rattle.band.proofs.RoundedLaws.{rounded}
use Rattle.band.proofs.CellHistory.{credit_keeps, Holds, zeroed_fit, zeroed_small, zeroed_known}
use Rattle.band.proofs.History as H

-- CLOSE
module _ {t c P n : ℕ} {x : ℕ → ℕ} {b : List ℕ} (top : P < max_zoom c) (h : Holds t c P n x b) (σ : ℕ) where
  abbrev coin : Divided
  coin = rounded_div (shutter_of t b) (unit_of t c b) σ

  abbrev Closed : Step → Type 0
  Closed s = zoom_of t s.bytes ≤ P → H.Shut t c P n x (zoom_of t s.bytes) (pixel_of s.bytes)

  -- an empty shutter rounds to 0
  not_empty : (coin.value ≡ 0 → ⊥) → 0 < shutter_of t b
  not_empty ne = by (ℕ_discrete (shutter_of t b) 0)
    where
      by : Dec (shutter_of t b ≡ 0) → 0 < shutter_of t b
      by (yes e) =
          let unit : 0 < unit_of t c b = one-le-pow (zoom_of t b) c (omega (arith, h.fit.c_low)) in
          absurd (ne ((rounded (shutter_of t b) (unit_of t c b) unit σ).exact 0 (e ∙ sym (mul-zero (unit_of t c b)))))
      by (no e) = omega arith

  down : H.Shut t c P n x (zoom_of t (with_shutter t 0 b)) (pixel_of (with_shutter t 0 b))
  down = H.shut_down h.fit.c_low (zeroed_known top h)

  up : (coin.value ≡ 0 → ⊥) → Closed (credit_of t c (slot_of t n) (with_shutter t 0 b) coin.state)
  up ne =
      credit_keeps t c (slot_of t n) P (with_shutter t 0 b) coin.state (zeroed_fit top h) (zeroed_small top h) (slot_inside t n)
      (omega (arith, (zeroed_known top h).zoom)) (λ Z p. H.Shut t c P n x Z p)
      (λ p m. H.shut_up h.fit.c_low (zeroed_known top h) (not_empty ne) m) (λ p q o room d. H.shut_out h.fit.c_low o room d)

  pub close_holds : Closed (close_of t c (slot_of t n) b σ)
  unfolding close_of
  close_holds =
      either Closed (eqb coin.value 0) (made (with_shutter t 0 b) coin.state coin.draws 0)
      (later coin.draws (credit_of t c (slot_of t n) (with_shutter t 0 b) coin.state)) (λ e l. down) (λ e. up (eqb-false _ _ e))

-- CLEAR, of k sub-windows
clear_known : {t c P n k : ℕ} {x : ℕ → ℕ} (b : List ℕ) → Fit t c (length b) → 0 < k → k < pixels_of t
    → H.Shut t c P n x (zoom_of t b) (pixel_of b) → H.Fresh t c P (n + k) x (zoom_of t b) (pixel_of (clear_of t k (n + 1) b))
clear_known {t} {c} {P} {n} {k} b fit some few h =
    H.cleared fit.c_low h (omega arith) (omega arith)
    (λ j lo hi. clear_here t k (n + 1) b j (omega (arith, fit.size_is)) (omega arith) (omega arith))
    (λ i ne. clear_other t k (n + 1) b i (λ j lo hi. ne j (omega arith) (omega arith)))

-- a cell as a new sub-window begins, at the zoom z
record Begun (t c P n : ℕ) (x : ℕ → ℕ) (z : ℕ) (b : List ℕ) : Type 0 where
  fit : Fit t c (length b)
  small : Small b
  shutter : shutter_of t b ≡ 0
  zoom : zoom_of t b ≡ z
  known : H.Fresh t c P n x z (pixel_of b)

-- ZOOM IN
module _ {t c P n : ℕ} {x : ℕ → ℕ} (top : P < max_zoom c) where
  one_in : (z : ℕ) (b : List ℕ) → all_at_most (ceiling_of c) (pixels_in t b) ≡ true → Begun t c P n x (suc z) b → Begun t c P n x z (zoomed_in t c z b)
  one_in z b low h =
      let k = zoomed_kept t c z b h.fit low (omega (arith, h.known.zoom, max_zoom_limit c)) in
      record {
        fit = rw k.long h.fit;
        small = k.small h.small;
        shutter = zoomed_shutter t c z b h.fit ∙ h.shutter;
        zoom = zoomed_zoom t c z b h.fit low;
        known = H.fresh_in h.fit.c_low h.known (zoomed_pixel t c z b h.fit);
      }

  begun_holds : (z : ℕ) (b : List ℕ) → Begun t c P n x z b → Holds t c P n x b
  begun_holds z b h = record { fit = h.fit; small = h.small; known = rw (h.zoom, h.shutter) (H.fresh_open h.fit.c_low h.known) }

  zoom_in_holds : (z : ℕ) (b : List ℕ) → Begun t c P n x z b → Holds t c P n x (zoom_in_from t c z b)
  unfolding zoom_in_from
  zoom_in_holds zero b h = begun_holds zero b h
  zoom_in_holds (suc z) b h =
      either (Holds t c P n x) (all_at_most (ceiling_of c) (pixels_in t b)) (zoom_in_from t c z (zoomed_in t c z b)) b
      (λ e. zoom_in_holds z (zoomed_in t c z b) (one_in z b e h)) (λ e. begun_holds (suc z) b h)

-- THE WHOLE CROSSING, by k to n + k
module _ {t c P n : ℕ} {x : ℕ → ℕ} {b : List ℕ} (top : P < max_zoom c) (h : Holds t c P n x b) (k σ : ℕ) where
  abbrev inside : Step
  inside = inside_of t c (n + k) k b σ

  abbrev Fresh : Step → Type 0
  Fresh s = zoom_of t s.bytes ≤ P → H.Fresh t c P (n + k) x (zoom_of t s.bytes) (pixel_of s.bytes)

  inside_fresh : 0 < k → Fresh inside
  unfolding inside_of
  inside_fresh some =
      rw (add-sub_cancel n k)
      (let shut = close_of t c (slot_of t n) b σ in
      let q = closed t c (slot_of t n) b σ h.fit (slot_inside t n) in
      let z = clear_zoom t k (n + 1) shut.bytes in
      either Fresh (leb (pixels_of t) k) (still (emptied t b) σ) (leaving shut (clear_of t k (n + 1) shut.bytes))
      (λ e l. rw (emptied_zoom t c b h.fit) (H.jumped h.fit.c_low h.known (omega (arith, leb-true (pixels_of t) k e)) (emptied_pixel t c b h.fit)))
      (λ e l. rw z (clear_known shut.bytes (rw q.kept.long h.fit) some (leb-false _ _ e) (close_holds top h σ (rw z at l)))))

  inside_begun : 0 < k → zoom_of t inside.bytes ≤ P → Begun t c P (n + k) x (zoom_of t inside.bytes) inside.bytes
  inside_begun some l =
      let s = inside_quiet t c (n + k) k b σ h.fit in
      record { fit = rw s.kept.long h.fit; small = s.kept.small h.small; shutter = s.shutter; zoom = refl; known = inside_fresh some l }

  pub cross_holds : ((k ≡ 0 → ⊥) → zoom_of t inside.bytes ≤ P) → Holds t c P (n + k) x (cross_of t c (n + k) k b σ).bytes
  unfolding cross_of
  cross_holds l =
      either (λ (s : Step). Holds t c P (n + k) x s.bytes) (eqb k 0) (still b σ) (leaving inside (zoom_in_of t c inside.bytes))
      (λ e. rw (eqb-true k 0 e, add-zero n) h)
      (λ e. let ne = eqb-false k 0 e in zoom_in_holds top (zoom_of t inside.bytes) inside.bytes (inside_begun (omega arith) (l ne)))

  -- to a sub-window that is named otherwise
  pub cross_to : (n' : ℕ) → n + k ≡ n' → ((k ≡ 0 → ⊥) → zoom_of t (inside_of t c n' k b σ).bytes ≤ P) → Holds t c P n' x (cross_of t c n' k b σ).bytes
  cross_to n' e = rw (sym e) cross_holds
