-- A pass over k + 1 pieces is the pass over the first k and one step more: so what it leaves is known piece by piece.
use Prim.Native.Nat.{ℕ, zero, suc, ◌+◌, ◌-◌, ◌*◌, ◌^◌, ◌≤◌, ◌<◌}
use mathlib.Core.Path.{◌≡◌, refl, sym, ap, ◌∙◌}
use mathlib.Core.Logic.{⊎_elim}
use mathlib.Core.List.{List, ◌++◌, append_assoc}
use lib.ListN.{length, take, drop, length-drop, take-append-drop}
use lib.Seq.{drop-drop, length-take-le}
use native.Mathlib.Omega.{arith}
use native.Mathlib.Nat.{add-zero, zero-add, add-suc, suc-add, add_assoc, zero-mul, sub-zero}
use native.Mathlib.Nat.{eq-or-lt_of_le, le_of_suc-le-suc, lt-suc_self}
use native.Mathlib.Numerals.{add-one}
use Rattle.laws.specs.Steps.{Step, still, chain, made}
use Rattle.laws.specs.Parts.{part, splice}
use Rattle.laws.specs.Passes.{each_of}
use Rattle.laws.proofs.PartLaws.{part_length, splice_length, splice_taken, splice_dropped, splice_part, splice_append, further, piece_room, piece_other}

module _ (f : ℕ → List ℕ → ℕ → Step) (size : ℕ) where
  each_zero : (j : ℕ) (l : List ℕ) (σ : ℕ) → each_of f size j 0 l σ ≡ still l σ
  unfolding each_of
  each_zero j l σ = refl

  each_cons : (j k : ℕ) (l : List ℕ) (σ : ℕ)
      → each_of f size j (suc k) l σ ≡ chain (f j (take size l) σ) (each_of f size (suc j) k (drop size l) (f j (take size l) σ).state)
  unfolding each_of
  each_cons j k l σ = refl

  -- the step of piece i, from the state that the pieces before it left
  abbrev step_at : ℕ → ℕ → List ℕ → ℕ → Step
  step_at j i l σ = f (j + i) (part (i * size) size l) (each_of f size j i l σ).state

  step_suc : (j i : ℕ) (l : List ℕ) (σ : ℕ) → step_at j (suc i) l σ ≡ step_at (suc j) i (drop size l) (f j (take size l) σ).state
  step_suc j i l σ = rw (each_cons, further size i, ← drop-drop (i * size) size l, add-suc, suc-add)

  module _ (keeps : (j : ℕ) (b : List ℕ) (σ : ℕ) → length b ≡ size → length (f j b σ).bytes ≡ size) where
    pub each_suc : (i j : ℕ) (l : List ℕ) (σ : ℕ) → i * size + size ≤ length l
        → each_of f size j (suc i) l σ ≡ record {
          bytes = splice (i * size) size (step_at j i l σ).bytes (each_of f size j i l σ).bytes;
          state = (step_at j i l σ).state;
          draws = (each_of f size j i l σ).draws + (step_at j i l σ).draws;
          lost = (each_of f size j i l σ).lost + (step_at j i l σ).lost;
        }
    each_suc zero j l σ room = each_cons j 0 l σ ∙ simp (each_zero, zero-mul, add-zero, zero-add)
    each_suc (suc i) j l σ room =
        let less : i * size + size ≤ length (drop size l) = rw (length-drop size l) (omega (arith, further size i)) in
        let long : length (f j (take size l) σ).bytes ≡ size = keeps j (take size l) σ (length-take-le size l (omega arith)) in
        each_cons j (suc i) l σ ∙ ap (chain (f j (take size l) σ)) (each_suc i (suc j) (drop size l) (f j (take size l) σ).state less)
        ∙ rw (step_suc j i l σ, each_cons j i l σ, further size i, splice_append (i * size) size size) (simp add_assoc)

    step_length : (i j : ℕ) (l : List ℕ) (σ : ℕ) → i * size + size ≤ length l → length (step_at j i l σ).bytes ≡ size
    step_length i j l σ room = keeps (j + i) (part (i * size) size l) (each_of f size j i l σ).state (part_length (i * size) size l room)

    pub each_length : (k j : ℕ) (l : List ℕ) (σ : ℕ) → k * size ≤ length l → length (each_of f size j k l σ).bytes ≡ length l
    each_length zero j l σ room = rw each_zero
    each_length (suc k) j l σ room =
        let here : k * size + size ≤ length l = piece_room size (suc k) k (length l) (lt-suc_self k) room in
        let e : length (each_of f size j k l σ).bytes ≡ length l = each_length k j l σ (omega arith) in
        rw (each_suc k j l σ here)
        (splice_length (k * size) size (step_at j k l σ).bytes (each_of f size j k l σ).bytes (rw e here) (step_length k j l σ here) ∙ e)

    pub each_piece : (k j i : ℕ) (l : List ℕ) (σ : ℕ) → i < k → k * size ≤ length l
        → part (i * size) size (each_of f size j k l σ).bytes ≡ (f (j + i) (part (i * size) size l) (each_of f size j i l σ).state).bytes
    each_piece zero j i l σ h room = absurd (omega arith)
    each_piece (suc k) j i l σ h room =
        let here : k * size + size ≤ length l = piece_room size (suc k) k (length l) (lt-suc_self k) room in
        let long : length (step_at j k l σ).bytes ≡ size = step_length k j l σ here in
        let e : length (each_of f size j k l σ).bytes ≡ length l = each_length k j l σ (omega arith) in
        rw (each_suc k j l σ here)
        (⊎_elim
        (λ q. rw q (splice_part (k * size) size (step_at j k l σ).bytes (each_of f size j k l σ).bytes (rw e here) long))
        (λ q. piece_other size (suc k) k (step_at j k l σ).bytes (each_of f size j k l σ).bytes (lt-suc_self k) (rw e room) long i (λ n. omega arith)
        ∙ each_piece k j i l σ q (omega arith))
        (eq-or-lt_of_le (le_of_suc-le-suc h)))

    -- what holds at the start and is kept by each step, of the pieces done, the draws made and the state
    module _ (k j : ℕ) (l : List ℕ) (σ : ℕ) (room : k * size ≤ length l) where
      module _ (Q : ℕ → ℕ → ℕ → Type 0) (first : Q 0 0 σ)
          (next : (i n s : ℕ) → i < k → Q i n s
          → Q (suc i) (n + (f (j + i) (part (i * size) size l) s).draws) (f (j + i) (part (i * size) size l) s).state) where
        pub each_holds : (i : ℕ) → i ≤ k → Q i (each_of f size j i l σ).draws (each_of f size j i l σ).state
        each_holds zero h = rw each_zero first
        each_holds (suc i) h =
            rw (each_suc i j l σ (piece_room size k i (length l) h room))
            (next i (each_of f size j i l σ).draws (each_of f size j i l σ).state h (each_holds i (omega arith)))

-- WHERE A LOOP IS that steps from piece to piece in place: i pieces are done, and the next begins at a; none drew more than m or lost more than q
pub record Going (f : ℕ → List ℕ → ℕ → Step) (size m q k : ℕ) (l₀ : List ℕ) (σ₀ : ℕ) (l : List ℕ) (σ drawn lost a i : ℕ) : Type 0 where
  pub done : each_of f size 0 k l₀ σ₀ ≡ chain (made (take a l) σ drawn lost) (each_of f size i (k - i) (drop a l) σ)
  pub rest : drop a l ≡ drop a l₀
  pub start : a ≡ i * size
  pub most : i ≤ k
  pub room : k * size ≤ length l₀
  pub same : length l ≡ length l₀
  pub few : drawn ≤ i * m
  pub light : lost ≤ i * q

module _ (f : ℕ → List ℕ → ℕ → Step) (size m q k : ℕ) (l₀ : List ℕ) (σ₀ : ℕ) where
  pub going_begin : k * size ≤ length l₀ → Going f size m q k l₀ σ₀ l₀ σ₀ 0 0 0 0
  going_begin h = record {
    done = simp (zero-add, sub-zero);
    rest = refl;
    start = sym (zero-mul size);
    most = omega arith;
    room = h;
    same = refl;
    few = omega arith;
    light = omega arith;
  }

  module _ (l : List ℕ) (σ drawn lost a i : ℕ) (w : Going f size m q k l₀ σ₀ l σ drawn lost a i) where
    pub going_end : k ≤ i → made l σ drawn lost ≡ each_of f size 0 k l₀ σ₀
    going_end h =
        let e : k - i ≡ 0 = omega arith in
        sym (w.done ∙ rw (e, each_zero) (simp (take-append-drop, add-zero)))

    module _ (more : i < k) (d : ℕ) (whole : d ≡ size) where
      mid : a + d - a ≡ size
      mid = omega arith

      inside : a + size ≤ length l
      inside = omega (arith, piece_room size k i (length l₀) more w.room)

      pub going_room : a + d ≤ length l
      going_room = omega (arith, inside)

      pub going_fits : length l₀ < 2 ^ 64 → a + d < 2 ^ 64
      going_fits h = omega (arith, inside, w.same)

      pub going_length : length (take (a + d - a) (drop a l)) ≡ size
      going_length = rw mid (part_length a size l inside)

      -- the piece at a of a list beside this one, and of this one: untouched yet
      pub going_beside : (x : List ℕ) → take (a + d - a) (drop a x) ≡ part (i * size) size x
      going_beside x = rw (mid, w.start)

      pub going_piece : take (a + d - a) (drop a l) ≡ part (i * size) size l₀
      going_piece = rw w.rest (going_beside l₀)

      pub going_on : (ys : List ℕ) (s n o : ℕ) → length ys ≡ length (take (a + d - a) (drop a l))
          → made ys s n o ≡ f i (take (a + d - a) (drop a l)) σ → n ≤ m → o ≤ q
          → Going f size m q k l₀ σ₀ (take a l ++ (ys ++ drop (a + d - a) (drop a l))) s (drawn + n) (lost + o) (a + d) (i + 1)
      going_on ys s n o long e few light =
          let next : k - i ≡ suc (k - (i + 1)) = omega arith in
          let here : made ys s n o ≡ f i (part a size l) σ = rw mid at e in
          let full : length ys ≡ size = (rw mid at long) ∙ part_length a size l inside in
          let taken = splice_taken a size ys l inside full in
          let dropped = splice_dropped a size ys l inside full in
          rw (mid, whole)
          (record {
            done = w.done ∙ rw (next, each_cons, ← here, taken, dropped, ← drop-drop size a l) (simp (append_assoc, add_assoc, add-one));
            rest = dropped ∙ rw (← drop-drop size a l, ← drop-drop size a l₀, w.rest);
            start = omega (arith, w.start);
            most = omega arith;
            room = w.room;
            same = splice_length a size ys l inside full ∙ w.same;
            few = omega (arith, w.few);
            light = omega (arith, w.light);
          })
