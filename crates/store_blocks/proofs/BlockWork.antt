-- A block is written in three parts, each where the one before it ends, and read in the same three.
use Prim.Native.Nat.{ℕ, ◌+◌, ◌≤◌}
use mathlib.Core.Path.{◌≡◌, sym, ap, ap₂, ◌∙◌}
use mathlib.Core.List.{List, ◌++◌}
use lib.Dec.{eqb}
use lib.ListN.{length, take, drop, length-drop}
use lib.Seq.{take_all, take_at, length-take-le}
use native.Mathlib.Omega.{arith}
use borrow.Author.Tests.{eq-eqb, ne_eqb}
use Rattle.laws.specs.Bytes.{number_of, bytes_of}
use Rattle.laws.specs.Parts.{part, splice}
use Rattle.laws.proofs.ByteLaws.{bytes_length}
use Rattle.laws.proofs.PartLaws.{part_length, splice_length, splice_taken}
use Rattle.store_bytes.specs.Fill.{filled}
use Rattle.store_blocks.specs.Blocks.{weighed_from, body_of, block_of, block_passes}
use Rattle.store_bytes.proofs.FillLaws.{filled_length}

-- at lengths that are variables, so that nothing unfolds
module _ (p q r : ℕ) (b u : List ℕ) (whole : length b ≡ p + q + r) (eu : length u ≡ p) where
  one_long : length (u ++ drop p b) ≡ p + q + r
  one_long = splice_length 0 p u b (omega arith) eu ∙ whole

  module _ (v : List ℕ) (ev : length v ≡ q) where
    abbrev two : List ℕ
    two = splice p q v (u ++ drop p b)

    room : p + q ≤ length (u ++ drop p b)
    room = omega (arith, one_long)

    two_long : length two ≡ p + q + r
    two_long = splice_length p q v (u ++ drop p b) room ev ∙ one_long

    two_parts : take (p + q) two ≡ u ++ v
    two_parts = splice_taken p q v (u ++ drop p b) room ev ∙ rw (take_at u (drop p b) p eu)

    three_parts : (w : List ℕ) → length w ≡ r → splice (p + q) r w two ≡ (u ++ v) ++ w
    three_parts w ew =
        let space : p + q + r ≤ length two = omega (arith, two_long) in
        let long : length (splice (p + q) r w two) ≡ p + q + r = splice_length (p + q) r w two space ew ∙ two_long in
        sym (take_all (p + q + r) (splice (p + q) r w two) (omega (arith, long))) ∙ splice_taken (p + q) r w two space ew ∙ rw two_parts

pub block_written : (number : ℕ) (b u v w payload : List ℕ) (sum : ℕ) → length b ≡ 512 → u ≡ bytes_of (length (take 4 b)) number
    → v ≡ filled (length (part 4 504 (u ++ drop 4 b))) payload → sum ≡ weighed_from 0 (take 508 (splice 4 504 v (u ++ drop 4 b)))
    → w ≡ bytes_of (length (part 508 4 (splice 4 504 v (u ++ drop 4 b)))) sum → splice 508 4 w (splice 4 504 v (u ++ drop 4 b)) ≡ block_of number payload
unfolding block_of
block_written number b u v w payload sum long eu ev es ew =
    let front : u ≡ bytes_of 4 number = eu ∙ ap (λ (n : ℕ). bytes_of n number) (length-take-le 4 b (omega arith)) in
    let lu : length u ≡ 4 = ap length front ∙ bytes_length 4 number in
    let l1 : length (u ++ drop 4 b) ≡ 512 = one_long 4 504 4 b u long lu in
    let middle : v ≡ filled 504 payload = ev ∙ ap (λ (n : ℕ). filled n payload) (part_length 4 504 (u ++ drop 4 b) (omega arith)) in
    let lv : length v ≡ 504 = ap length middle ∙ filled_length 504 payload in
    let l2 : length (splice 4 504 v (u ++ drop 4 b)) ≡ 512 = two_long 4 504 4 b u long lu v lv in
    let body : u ++ v ≡ body_of number payload = ap₂ ◌++◌ front middle in
    let total : sum ≡ weighed_from 0 (body_of number payload) = es ∙ ap (weighed_from 0) (two_parts 4 504 4 b u long lu v lv ∙ body) in
    let seal : w ≡ bytes_of 4 sum = ew ∙ ap (λ (n : ℕ). bytes_of n sum) (part_length 508 4 (splice 4 504 v (u ++ drop 4 b)) (omega arith)) in
    three_parts 4 504 4 b u long lu v lv w (ap length seal ∙ bytes_length 4 sum) ∙ ap₂ ◌++◌ body (seal ∙ ap (bytes_of 4) total)

module _ (number : ℕ) (b : List ℕ) (n : ℕ) (en : n ≡ number_of (take 4 b)) where
  pub number_differs : (n ≡ number → ⊥) → eqb n number ≡ block_passes number b
  unfolding block_passes
  number_differs h = rw (← en, ne_eqb _ _ h)

  pub number_same : n ≡ number → length b ≡ 512 → (m s : ℕ) → m ≡ number_of (part 508 4 b) → s ≡ weighed_from 0 (take 508 b) → eqb m s ≡ block_passes number b
  unfolding block_passes
  number_same h long m s em es =
      let e : part 508 4 b ≡ drop 508 b = take_all 4 (drop 508 b) (simp length-drop (omega arith)) in
      rw (em, es, e, ← en, eq-eqb _ _ h)
