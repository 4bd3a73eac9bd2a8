-- A loop over blocks has done those before `start`, and what is left is the same thing of the rest; byte j of what they carry stands in
-- a place that j alone tells.
use Prim.Native.Nat.{ℕ, zero, suc, ◌+◌, ◌-◌, ◌*◌, ◌/◌, ◌%◌, ◌≤◌, ◌<◌}
use mathlib.Core.Path.{◌≡◌, refl, sym, ap, ◌∙◌}
use mathlib.Core.Bool.{Bool}
use mathlib.Core.List.{List, ◌++◌, append_assoc, append-nil}
use lib.ListN.{length, take, drop, get_or, length-drop, get_or-append}
use lib.Seq.{take_all, take-add, drop-drop, get_or-take, get_or-drop, get_or-append-add, ext_get_or}
use native.Mathlib.Omega.{arith}
use native.Mathlib.Nat.{add-sub_cancel_left}
use native.Mathlib.Numerals.{add-one}
use native.Mathlib.Decide.{dec_lt}
use Rattle.laws.specs.Parts.{part}
use Rattle.laws.proofs.PartLaws.{part_length, part_at, splice_length, splice_taken}
use Rattle.store_blocks.specs.Workers.{InBlock}
use Rattle.store_bytes.specs.Fill.{filled, all_zero}
use Rattle.store_blocks.specs.Blocks.{block_of, blocks_from, payload_of, payloads_of, carried}
use Rattle.store_bytes.proofs.FillLaws.{part_part, filled_is, filled_length, filled_at}
use Rattle.store_blocks.proofs.BlockLaws.{block_length, block_same}
use Rattle.store_blocks.proofs.ChainLaws.{from_zero, from_suc, payloads_suc, payload_length, payloads_length}

-- WRITING a list into another, piece by piece
pub record Writing (target b₀ b : List ℕ) (i : ℕ) : Type 0 where
  pub done : take i b ≡ take i target
  pub same : length b ≡ length b₀
  pub long : length target ≡ length b₀

-- WRITING BLOCKS
pub record Filling (n : ℕ) (g b₀ b : List ℕ) (i : ℕ) : Type 0 where
  pub done : blocks_from 1 n g ≡ take (i * 512) b ++ blocks_from (i + 1) (n - i) (drop (i * 504) g)
  pub same : length b ≡ length b₀
  pub room : length b₀ ≡ 512 * n
  pub inside : 504 * n < length g + 504

module _ (g b₀ : List ℕ) where
  pub filling_begin : length b₀ ≡ 512 * ((length g + 503) / 504) → Filling (length b₀ / 512) g b₀ b₀ 0
  filling_begin e =
      let all : length b₀ / 512 - 0 ≡ length b₀ / 512 = omega arith in
      record { done = rw all; same = refl; room = omega arith; inside = omega arith }

  module _ (n : ℕ) (b : List ℕ) (i : ℕ) (w : Filling n g b₀ b i) where
    pub filling_end : n ≤ i → b ≡ blocks_from 1 n g
    filling_end h =
        let e : n - i ≡ 0 = omega arith in
        sym (w.done ∙ rw (e, from_zero) (append-nil (take (i * 512) b) ∙ take_all (i * 512) b (omega (arith, w.same, w.room))))

    module _ (more : i < n) where
      filling_room : i * 512 + 512 ≤ length b
      filling_room = omega (arith, w.same, w.room)

      pub filling_on : (y : List ℕ) → y ≡ block_of (i + 1) (take (length g - i * 504) (drop (i * 504) g))
          → Filling n g b₀ (take (i * 512) b ++ (y ++ drop (i * 512 + 512 - i * 512) (drop (i * 512) b))) (i + 1)
      filling_on y whole =
          let behind = drop (i * 504) g in
          let e : y ≡ block_of (i + 1) behind = whole ∙ rw (take_all (length g - i * 504) behind (simp length-drop (omega arith))) in
          let first = take 504 behind in
          let one : n - i ≡ suc (n - (i + 1)) = omega arith in
          let long : length y ≡ 512 = ap length e ∙ block_length (i + 1) behind in
          let alike : filled 504 behind ≡ filled 504 first =
          filled_is 504 behind (filled 504 first) (filled_length 504 first) (λ i h. sym (filled_at 504 first i h ∙ get_or-take 504 behind i 0 h))
          in
          let cut : block_of (i + 1) behind ≡ block_of (i + 1) first = block_same (i + 1) behind first alike in
          let next : blocks_from (i + 1) (n - i) behind ≡ y ++ blocks_from (suc (i + 1)) (n - (i + 1)) (drop 504 behind) =
          ap (λ (n : ℕ). blocks_from (i + 1) n behind) one ∙ rw (from_suc (i + 1) (n - (i + 1)), ← cut, ← e)
          in
          let a : i * 504 + 504 ≡ (i + 1) * 504 = omega arith in
          let d : i * 512 + 512 ≡ (i + 1) * 512 = omega arith in
          rw (add-sub_cancel_left (i * 512) 512)
          (record {
            done =
                w.done ∙ rw (next, drop-drop 504 (i * 504) g, ← d, ← a, splice_taken (i * 512) 512 y b filling_room long) (simp (add-one, append_assoc));
            same = splice_length (i * 512) 512 y b filling_room long ∙ w.same;
            room = w.room;
            inside = w.inside;
          })

-- WHERE BYTE j of what the blocks from 1 on carry stands
payloads_at : (count : ℕ) (l : List ℕ) (j : ℕ) → 512 * count ≤ length l → j < 504 * count → get_or (payloads_of count l) j 0 ≡ get_or l (j + j / 504 * 8 + 4) 0
payloads_at zero l j room h = absurd (omega arith)
payloads_at (suc count) l j room h = rw payloads_suc (by (dec_lt j 504) (payloads_at count (drop 512 l) (j - 504) (simp length-drop (omega arith))))
  where
    long : length (payload_of (take 512 l)) ≡ 504
    long = payload_length l (omega arith)

    by : Dec (j < 504) → (j - 504 < 504 * count → get_or (payloads_of count (drop 512 l)) (j - 504) 0 ≡ get_or (drop 512 l) (j - 504 + (j - 504) / 504 * 8 + 4) 0)
        → get_or (payload_of (take 512 l) ++ payloads_of count (drop 512 l)) j 0 ≡ get_or l (j + j / 504 * 8 + 4) 0
    by (yes a) behind =
        let e : 4 + j ≡ j + j / 504 * 8 + 4 = omega arith in
        get_or-append (payload_of (take 512 l)) (payloads_of count (drop 512 l)) 0 j (omega (arith, long))
        ∙ part_at 4 504 (take 512 l) j a ∙ get_or-take 512 l (4 + j) 0 (omega arith) ∙ ap (λ (i : ℕ). get_or l i 0) e
    by (no a) behind =
        let e : j ≡ length (payload_of (take 512 l)) + (j - 504) = omega (arith, long) in
        let f : 512 + (j - 504 + (j - 504) / 504 * 8 + 4) ≡ j + j / 504 * 8 + 4 = omega arith in
        ap (λ (i : ℕ). get_or (payload_of (take 512 l) ++ payloads_of count (drop 512 l)) i 0) e
        ∙ get_or-append-add (payload_of (take 512 l)) (payloads_of count (drop 512 l)) (j - 504) 0
        ∙ behind (omega arith) ∙ get_or-drop 512 l (j - 504 + (j - 504) / 504 * 8 + 4) 0 ∙ ap (λ (i : ℕ). get_or l i 0) f

module _ (store : List ℕ) where
  abbrev room : ℕ
  room = 504 * (length store / 512 - 1)

  tail_room : 512 * (length store / 512 - 1) ≤ length (drop 512 store)
  tail_room = simp length-drop (omega arith)

  pub carried_length : length (carried store) ≡ room
  carried_length = payloads_length (length store / 512 - 1) (drop 512 store) tail_room

  carried_at : (j : ℕ) → j < room → get_or (carried store) j 0 ≡ get_or store (j + j / 504 * 8 + 516) 0
  carried_at j h =
      let e : 512 + (j + j / 504 * 8 + 4) ≡ j + j / 504 * 8 + 516 = omega arith in
      payloads_at (length store / 512 - 1) (drop 512 store) j tail_room h ∙ get_or-drop 512 store (j + j / 504 * 8 + 4) 0 ∙ ap (λ (i : ℕ). get_or store i 0) e

  -- what one block carries stands together
  module _ (j n : ℕ) (some : 0 < n) (inside : j % 504 + n ≤ 504) (fits : j + n ≤ room) where
    place_room : j + j / 504 * 8 + 516 + n ≤ length store
    place_room = omega arith

    piece_is : part j n (carried store) ≡ part (j + j / 504 * 8 + 516) n store
    piece_is =
        ext_get_or 0 (part j n (carried store)) (part (j + j / 504 * 8 + 516) n store)
        (part_length j n (carried store) (omega (arith, carried_length)) ∙ sym (part_length (j + j / 504 * 8 + 516) n store place_room))
        (λ i h.
        let i<n : i < n = omega (arith, h, part_length j n (carried store) (omega (arith, carried_length))) in
        let e : j + i + (j + i) / 504 * 8 + 516 ≡ j + j / 504 * 8 + 516 + i = omega arith in
        part_at j n (carried store) i i<n ∙ carried_at (j + i) (omega arith) ∙ ap (λ (k : ℕ). get_or store k 0) e
        ∙ sym (part_at (j + j / 504 * 8 + 516) n store i i<n))

  -- COPYING OUT, the bytes of one block after those of another
  module _ (at : ℕ) (out₀ : List ℕ) (fits : at + length out₀ ≤ room) where
    abbrev target : List ℕ
    target = part at (length out₀) (carried store)

    pub out_begin : Writing target out₀ out₀ 0
    out_begin = record { done = refl; same = refl; long = part_length at (length out₀) (carried store) (omega (arith, carried_length)) }

    module _ (out : List ℕ) (i : ℕ) (w : Writing target out₀ out i) (more : i < length out) (n : ℕ) (piece : InBlock (at + i) (length out - i) n) where
      abbrev place : ℕ
      place = at + i + (at + i) / 504 * 8 + 516

      here : at + i + n ≤ room
      here = omega (arith, w.same, piece.most)

      out_room : i + n ≤ length out
      out_room = omega (arith, piece.most)

      out_place : place + n ≤ length store
      out_place = place_room (at + i) n piece.some piece.inside here

      out_part : length (part i (i + n - i) out) ≡ n
      out_part = rw (add-sub_cancel_left i n) (part_length i n out out_room)

      from_part : length (part place (place + n - place) store) ≡ n
      from_part = rw (add-sub_cancel_left place n) (part_length place n store out_place)

      pub out_on : (y : List ℕ) → y ≡ part place (place + n - place) store → Writing target out₀ (take i out ++ (y ++ drop (i + n - i) (drop i out))) (i + n)
      out_on y ey =
          let copied : y ≡ part place n store = ey ∙ rw (add-sub_cancel_left place n) in
          let long : length y ≡ n = ap length ey ∙ from_part in
          let e : part i n target ≡ part (at + i) n (carried store) = part_part at i n (length out₀) (carried store) (omega (arith, out_room, w.same)) in
          let same : part i n target ≡ y = e ∙ piece_is (at + i) n piece.some piece.inside here ∙ sym copied in
          rw (add-sub_cancel_left i n)
          (record {
            done = splice_taken i n y out out_room long ∙ rw (w.done, ← same) (sym (take-add i n target));
            same = splice_length i n y out out_room long ∙ w.same;
            long = w.long;
          })

      -- the same of what `copy` wrote: as much of that as there is room for, which is all of it
      pub out_copied : (y : List ℕ) → y ≡ take (length (part i (i + n - i) out)) (part place (place + n - place) store)
          → Writing target out₀ (take i out ++ (y ++ drop (i + n - i) (drop i out))) (i + n)
      out_copied y ey =
          out_on y (ey ∙ take_all (length (part i (i + n - i) out)) (part place (place + n - place) store) (omega (arith, out_part, from_part)))

  -- WHAT IS BEHIND THE GRID stands in the last block, up to its sum
  module _ (size : ℕ) (some : 0 < size) (exact : length store ≡ 512 * (1 + (size + 503) / 504)) where
    abbrev start : ℕ
    start = size - 1 + (size - 1) / 504 * 8 + 517

    last_block : length store ≡ 512 * ((size - 1) / 504 + 2)
    last_block =
        let e : (size + 503) / 504 ≡ (size - 1) / 504 + 1 = omega arith in
        exact ∙ rw e (omega arith)

    room_is : room ≡ 504 * ((size - 1) / 504 + 1)
    room_is =
        let e : length store / 512 ≡ (size - 1) / 504 + 2 = omega (arith, last_block) in
        rw e (omega arith)

    left_is : length store - 4 - start ≡ room - size
    left_is = ap (λ (n : ℕ). n - 4 - start) last_block ∙ omega arith ∙ ap (λ (n : ℕ). n - size) (sym room_is)

    behind : drop size (carried store) ≡ part start (length store - 4 - start) store
    behind =
        ext_get_or 0 (drop size (carried store)) (part start (length store - 4 - start) store)
        (length-drop size (carried store) ∙ rw carried_length (sym left_is)
        ∙ sym (part_length start (length store - 4 - start) store (omega (arith, last_block))))
        (λ i h.
        let inside : i < room - size = omega (arith, h, length-drop size (carried store), carried_length) in
        let p : size + i + (size + i) / 504 * 8 + 516 ≡ start + i = omega (arith, room_is) in
        get_or-drop size (carried store) i 0 ∙ carried_at (size + i) (omega arith) ∙ ap (λ (j : ℕ). get_or store j 0) p
        ∙ sym (part_at start (length store - 4 - start) store i (omega (arith, left_is))))

    pub fill_is : (r : Bool) → r ≡ all_zero (take (length store - 4 - start) (drop start store)) → r ≡ all_zero (drop size (carried store))
    fill_is r e = e ∙ ap all_zero (sym behind)
