-- THE HEART: what one cell knows of its history, and one law for each step, whatever the coin says. No bytes and no random state here.
-- A cell is its zoom Z, its shutter s and its pixels p (by slot); x j is how many items sub-window j received, P any bound on the zoom.
-- It holds because a ring of t + 2 slots never shares one between two of the t + 1 sub-windows it covers: each step is then that of one sub-window.
use Prim.Native.Nat.{ℕ, suc, ◌+◌, ◌-◌, ◌*◌, ◌%◌, ◌^◌, ◌≤◌, ◌<◌}
use mathlib.Core.Path.{◌≡◌, refl, sym, ◌∙◌}
use native.Mathlib.Nat.{mul-add, mul-one, mul-zero, zero-mul, one-le-pow, mod-lt, mod-eq_of_lt, mod-add-mod, mod-eq-sub-mod}
use native.Mathlib.Omega.{arith}
use native.Mathlib.Decide.{dec_lt}
use Rattle.cell.specs.Cell.{pixels_of, slot_of}
use Rattle.cell.proofs.CellLaws.{slot_inside}
use Rattle.band.proofs.SubWindow.{Present, Past, Rounded, present_out, past_out, past_in, close_down, close_up, past_none}

-- THE WHOLE CELL at sub-window n, in three forms: while n is recorded; once its shutter is closed; as a new n begins
pub record Open (t c P n : ℕ) (x : ℕ → ℕ) (Z s : ℕ) (p : ℕ → ℕ) : Type 0 where
  pub zoom : Z ≤ P
  pub shut : s < c ^ Z
  pub present : Present c Z s (p (slot_of t n)) (x n)
  pub past : (j : ℕ) → j < n → n ≤ j + t → Past c P Z (p (slot_of t j)) (x j)
  pub none : (j : ℕ) → n < j → x j ≡ 0

pub record Shut (t c P n : ℕ) (x : ℕ → ℕ) (Z : ℕ) (p : ℕ → ℕ) : Type 0 where
  pub zoom : Z ≤ P
  pub past : (j : ℕ) → j ≤ n → n ≤ j + t → Past c P Z (p (slot_of t j)) (x j)
  pub none : (j : ℕ) → n < j → x j ≡ 0

pub record Fresh (t c P n : ℕ) (x : ℕ → ℕ) (Z : ℕ) (p : ℕ → ℕ) : Type 0 where
  pub zoom : Z ≤ P
  pub clear : p (slot_of t n) ≡ 0
  pub past : (j : ℕ) → j < n → n ≤ j + t → Past c P Z (p (slot_of t j)) (x j)
  pub none : (j : ℕ) → n ≤ j → x j ≡ 0

-- f' is f with 1 more at i: a history with one more item in a sub-window, or pixels of which one is credited
pub record OneMore (i : ℕ) (f f' : ℕ → ℕ) : Type 0 where
  pub here : f' i ≡ f i + 1
  pub elsewhere : (k : ℕ) → (k ≡ i → ⊥) → f' k ≡ f k

-- each slot divided by c, with rounding
abbrev pub Divides : ℕ → ℕ → (ℕ → ℕ) → (ℕ → ℕ) → Type 0
Divides t c p q = (i : ℕ) → i < pixels_of t → Rounded c (p i) (q i)

-- two numbers less than a ring's size apart never share a slot
ring_apart : (m a k : ℕ) → 0 < k → k < m → (a + k) % m ≡ a % m → ⊥
ring_apart m a k some few e = by (dec_lt (a % m + k) m)
  where
    r : a % m < m
    r = mod-lt a (omega arith)

    e' : (a % m + k) % m ≡ a % m
    e' = mod-add-mod a m k ∙ e

    by : Dec (a % m + k < m) → ⊥
    by (yes h) =
        let f : (a % m + k) % m ≡ a % m + k = mod-eq_of_lt h in
        omega (arith, e')
    by (no h) =
        let l : m ≤ a % m + k = omega arith in
        let f : (a % m + k) % m ≡ (a % m + k - m) % m = mod-eq-sub-mod l in
        let g : (a % m + k - m) % m ≡ a % m + k - m = mod-eq_of_lt (omega (arith, r)) in
        omega (arith, e', r)

pub slots_apart : (t i j : ℕ) → i < j → j ≤ i + t + 1 → slot_of t i ≡ slot_of t j → ⊥
slots_apart t i j h l e =
    let q : i + (j - i) ≡ j = omega arith in
    ring_apart (pixels_of t) i (j - i) (omega arith) (omega arith) (rw q (sym e))

-- a unit is never 0
one : {c : ℕ} → 2 ≤ c → (Z : ℕ) → 0 < c ^ Z
one {c} hc Z = one-le-pow Z c (omega arith)

module _ {t c P n : ℕ} (hc : 2 ≤ c) where
  -- INSERTION that only moves the shutter
  pub insert_shutter : {x x' : ℕ → ℕ} {Z s : ℕ} {p : ℕ → ℕ} → Open t c P n x Z s p → OneMore n x x' → s + 1 < c ^ Z → Open t c P n x' Z (s + 1) p
  insert_shutter h a room = record {
    zoom = h.zoom;
    shut = room;
    present = record { low = omega (arith, h.present.low, a.here); high = omega (arith, h.present.high, a.here) };
    past = λ j l k. rw (a.elsewhere j (λ e. omega arith)) (h.past j l k);
    none = λ j l. a.elsewhere j (λ e. omega arith) ∙ h.none j l;
  }

  -- INSERTION that credits the present pixel
  pub insert_credit : {x x' : ℕ → ℕ} {Z s : ℕ} {p p' : ℕ → ℕ} → Open t c P n x Z s p → OneMore n x x' → c ^ Z ≤ s + 1
      → OneMore (slot_of t n) p p' → Open t c P n x' Z 0 p'
  insert_credit {x} {x'} {Z} {s} {p} {p'} h a full b =
      let e : c ^ Z * p' (slot_of t n) ≡ c ^ Z * p (slot_of t n) + c ^ Z = rw b.here (mul-add (c ^ Z) (p (slot_of t n)) 1 ∙ rw (mul-one (c ^ Z)) refl) in
      record {
        zoom = h.zoom;
        shut = one hc Z;
        present = record { low = omega (arith, h.present.low, h.shut, a.here); high = omega (arith, h.present.high, h.shut, a.here) };
        past = λ j l k. rw (a.elsewhere j (λ q. omega arith), b.elsewhere (slot_of t j) (slots_apart t j n l (omega arith))) (h.past j l k);
        none = λ j l. a.elsewhere j (λ q. omega arith) ∙ h.none j l;
      }

  -- ZOOM-OUT, in an insertion
  pub open_out : {x : ℕ → ℕ} {Z : ℕ} {p q : ℕ → ℕ} → Open t c P n x Z 0 p → suc Z ≤ P → Divides t c p q → Open t c P n x (suc Z) 0 q
  open_out {x} {Z} h room r = record {
    zoom = room;
    shut = one hc (suc Z);
    present = present_out h.present (r (slot_of t n) (slot_inside t n));
    past = λ j l k. past_out room (r (slot_of t j) (slot_inside t j)) (h.past j l k);
    none = h.none;
  }

  -- ZOOM-OUT, in a crossing
  pub shut_out : {x : ℕ → ℕ} {Z : ℕ} {p q : ℕ → ℕ} → Shut t c P n x Z p → suc Z ≤ P → Divides t c p q → Shut t c P n x (suc Z) q
  shut_out h room r = record { zoom = room; past = λ j l k. past_out room (r (slot_of t j) (slot_inside t j)) (h.past j l k); none = h.none }

  -- CLOSE: what was past stays, and the present becomes so
  closed : {x : ℕ → ℕ} {Z s : ℕ} {p p' : ℕ → ℕ} → Open t c P n x Z s p → ((k : ℕ) → (k ≡ slot_of t n → ⊥) → p' k ≡ p k)
      → Past c P Z (p' (slot_of t n)) (x n) → Shut t c P n x Z p'
  closed {x} {Z} {s} {p} {p'} h same last = record { zoom = h.zoom; past = λ j l k. by j k (dec_lt j n) l; none = h.none }
    where
      by : (j : ℕ) → n ≤ j + t → Dec (j < n) → j ≤ n → Past c P Z (p' (slot_of t j)) (x j)
      by j k (yes l) m = rw (same (slot_of t j) (slots_apart t j n l (omega arith))) (h.past j l k)
      by j k (no l) m =
          let e : j ≡ n = omega arith in
          rw e last

  -- the pixel stays ..
  pub shut_down : {x : ℕ → ℕ} {Z s : ℕ} {p : ℕ → ℕ} → Open t c P n x Z s p → Shut t c P n x Z p
  shut_down h = closed h (λ k ne. refl) (close_down hc h.zoom h.shut h.present)

  -- .. or gains 1
  pub shut_up : {x : ℕ → ℕ} {Z s : ℕ} {p p' : ℕ → ℕ} → Open t c P n x Z s p → 0 < s → OneMore (slot_of t n) p p' → Shut t c P n x Z p'
  shut_up h some b = closed h b.elsewhere (rw b.here (close_up hc h.zoom h.shut h.present some))

  -- CLEAR: the slots of n + 1 to n' are 0, the others as they were
  pub cleared : {n' : ℕ} {x : ℕ → ℕ} {Z : ℕ} {p q : ℕ → ℕ} → Shut t c P n x Z p → n < n' → n' < n + pixels_of t
      → ((j : ℕ) → n < j → j ≤ n' → q (slot_of t j) ≡ 0)
      → ((i : ℕ) → ((j : ℕ) → n < j → j ≤ n' → i ≡ slot_of t j → ⊥) → q i ≡ p i)
      → Fresh t c P n' x Z q
  cleared {n'} {x} {Z} {p} {q} h l f zeros same =
      record { zoom = h.zoom; clear = zeros n' l (omega arith); past = λ j a b. by j a b (dec_lt n j); none = λ j a. h.none j (omega arith) }
    where
      by : (j : ℕ) → j < n' → n' ≤ j + t → Dec (n < j) → Past c P Z (q (slot_of t j)) (x j)
      by j a b (yes k) = rw (zeros j k (omega arith), h.none j k) (past_none hc h.zoom)
      by j a b (no k) =
          let e : q (slot_of t j) ≡ p (slot_of t j) = same (slot_of t j) (λ i lo hi. slots_apart t j i (omega arith) (omega arith)) in
          rw e (h.past j (omega arith) (omega arith))

  -- A FAR JUMP, of t + 2 or more: all is 0
  pub jumped : {n' : ℕ} {x : ℕ → ℕ} {Z s : ℕ} {p q : ℕ → ℕ} → Open t c P n x Z s p → n + pixels_of t ≤ n'
      → ((i : ℕ) → i < pixels_of t → q i ≡ 0) → Fresh t c P n' x Z q
  jumped {n'} h l zeros = record {
    zoom = h.zoom;
    clear = zeros (slot_of t n') (slot_inside t n');
    past = λ j a b. rw (zeros (slot_of t j) (slot_inside t j), h.none j (omega arith)) (past_none hc h.zoom);
    none = λ j a. h.none j (omega arith);
  }

  -- ZOOM-IN: each slot_of times c
  pub fresh_in : {x : ℕ → ℕ} {Z : ℕ} {p q : ℕ → ℕ} → Fresh t c P n x (suc Z) p → ((i : ℕ) → i < pixels_of t → q i ≡ p i * c) → Fresh t c P n x Z q
  fresh_in h m = record {
    zoom = omega (arith, h.zoom);
    clear = m (slot_of t n) (slot_inside t n) ∙ rw h.clear (zero-mul c);
    past = λ j a b. rw (m (slot_of t j) (slot_inside t j)) (past_in (h.past j a b));
    none = h.none;
  }

  -- a new sub-window begins
  pub fresh_open : {x : ℕ → ℕ} {Z : ℕ} {p : ℕ → ℕ} → Fresh t c P n x Z p → Open t c P n x Z 0 p
  fresh_open {x} {Z} h =
      let e : x n ≡ 0 = h.none n (omega arith) in
      record {
        zoom = h.zoom;
        shut = one hc Z;
        present = rw (h.clear, e) (record { low = rw (mul-zero (c ^ Z)) (omega (arith, one hc Z)); high = rw (mul-zero (c ^ Z)) (omega (arith, one hc Z)) });
        past = h.past;
        none = λ j l. h.none j (omega arith);
      }

-- the fresh cell of an empty history
pub empty_open : {t c P : ℕ} {x p : ℕ → ℕ} → 2 ≤ c → ((j : ℕ) → x j ≡ 0) → ((i : ℕ) → i < pixels_of t → p i ≡ 0) → Open t c P 0 x 0 0 p
empty_open {t} hc xs ps =
    fresh_open hc (record { zoom = omega arith; clear = ps (slot_of t 0) (slot_inside t 0); past = λ j l k. absurd (omega arith); none = λ j l. xs j })

-- pixels, zoom and shutter that are read in another way
module _ {t c P n : ℕ} {x : ℕ → ℕ} {Z Z' : ℕ} {p q : ℕ → ℕ} (ez : Z' ≡ Z) (e : (i : ℕ) → i < pixels_of t → q i ≡ p i) where
  pub open_as : {s s' : ℕ} → s' ≡ s → Open t c P n x Z s p → Open t c P n x Z' s' q
  open_as es h =
      rw (ez, es)
      (record {
        zoom = h.zoom;
        shut = h.shut;
        present = rw (e (slot_of t n) (slot_inside t n)) h.present;
        past = λ j l k. rw (e (slot_of t j) (slot_inside t j)) (h.past j l k);
        none = h.none;
      })

  pub shut_as : Shut t c P n x Z p → Shut t c P n x Z' q
  shut_as h = rw ez (record { zoom = h.zoom; past = λ j l k. rw (e (slot_of t j) (slot_inside t j)) (h.past j l k); none = h.none })
