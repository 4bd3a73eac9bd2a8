-- The ways through a load: each way out is what its definition gives there.
use Prim.Native.Nat.{ℕ, ◌+◌, ◌-◌, ◌*◌, ◌/◌, ◌%◌, ◌≤◌}
use mathlib.Core.Path.{◌≡◌, refl, sym, ap, ◌∙◌}
use mathlib.Core.Bool.{Bool, true, false, not}
use mathlib.Core.List.{List}
use lib.Dec.{eqb}
use lib.ListN.{length}
use native.Mathlib.Omega.{arith}
use borrow.Author.Tests.{eqb-true, eqb-false, not-false}
use Rattle.laws.specs.Parts.{part}
use Rattle.laws.proofs.PartLaws.{part_length}
use Rattle.refusal.specs.declared.Verdict.{Verdict}
use Rattle.refusal.specs.declared.Verdict.TheVariants.{Accepted}
use Rattle.refusal.specs.declared.Verdict.TheVariants as verdict
use Rattle.refusal.specs.Refusals.{is_accepted, and_then}
use Rattle.refusal.proofs.VerdictLaws.{refused_leaves, turned_back_lem, let_pass, not_refused}
use Rattle.sketch.specs.declared.MicroCm.{MicroCm}
use Rattle.sketch.specs.Refusals.{no_sketch, sketch_outcome, undrawn, world, numbers_verdict}
use Rattle.sketch.specs.declared.SketchAnswer.{SketchAnswer}
use Rattle.store_header.specs.declared.Header.{Header}
use Rattle.store_header.specs.declared.Header.TheVariants.{Sketch, Refused}
use Rattle.store_blocks.specs.Blocks.{carried}
use Rattle.store_header.specs.Refusals.{wrong_form, header_verdict, header_in, header_number}
use Rattle.store.specs.Refusals.{refuse_blocks, header_payload, grid_verdict, load_verdict, load_call}
use Rattle.store_bytes.proofs.FillLaws.{part_take}
use Rattle.store_header.proofs.HeaderLaws.{neither}
use Rattle.store_header.proofs.AnswerLaws.{header_refused, sketch_said}
use Rattle.refusal.proofs.GateLaws.{gate_open, gate_shut}
use Rattle.store.proofs.GateLaws.{blocks_gate}
use Rattle.store.proofs.LoadLaws.{sketch_of, grid_of, Kept, grid_kept, Loadable, accepted_loadable}

-- LOAD
module _ (g store : List ℕ) where
  unloaded : (a : SketchAnswer) (v : Verdict) → is_accepted v ≡ false → load_verdict g store ≡ v → a ≡ undrawn v no_sketch → sketch_outcome a g ≡ load_call g store
  unfolding load_call
  unloaded a v n e ea =
      rw (e, ea, refused_leaves v (world (sketch_of store) (grid_of store)) (world no_sketch g) n)

  abbrev left : Verdict
  left = and_then (header_verdict (header_payload store)) (grid_verdict (sketch_of store) g store)

  module _ (b : Verdict) (sound : Bool) (eb : b ≡ refuse_blocks store Accepted) (told : sound ≡ is_accepted b) where
    pub load_damaged : (a : SketchAnswer) → not sound ≡ true → a ≡ undrawn b no_sketch → sketch_outcome a g ≡ load_call g store
    load_damaged a n = unloaded a b (turned_back_lem b sound told n) (gate_shut (refuse_blocks store) (blocks_gate store) left b eb (turned_back_lem b sound told n))

    -- what is not cut has a first block
    pub load_long : not sound ≡ false → 508 ≤ length store
    load_long m =
        let uncut = neither (eqb (length store) 0) (not (eqb (length store % 512) 0)) (not_refused 16 _ _ (sym eb ∙ let_pass b sound told m)).0 in
        let some : length store ≡ 0 → ⊥ = eqb-false (length store) 0 uncut.0 in
        let whole : length store % 512 ≡ 0 = eqb-true _ _ (not-false _ uncut.1) in
        omega arith

    pub load_payload : not sound ≡ false → length (part 4 504 store) ≡ 504
    load_payload m = part_length 4 504 store (load_long m)

    module _ (m : not sound ≡ false) (h : Header) (eh : h ≡ header_in (part 4 504 store)) where
      past_blocks : load_verdict g store ≡ left
      past_blocks = gate_open (refuse_blocks store) (blocks_gate store) left (sym eb ∙ let_pass b sound told m)

      answered : header_in (header_payload store) ≡ h
      answered = ap header_in (part_take 4 504 512 store (omega arith)) ∙ sym eh

      pub load_header : (a : SketchAnswer) (n i : ℕ) → h ≡ Refused n → i ≡ header_number h → a ≡ undrawn (verdict.Refused i) no_sketch
          → sketch_outcome a g ≡ load_call g store
      load_header a n i en ei =
          let e : i ≡ n = ei ∙ ap header_number en in
          unloaded a (verdict.Refused i) refl (past_blocks ∙ rw (header_refused (header_payload store) n (answered ∙ en)) (ap verdict.Refused (sym e)))

      module _ (k : MicroCm) (ek : h ≡ Sketch k) where
        sketch_is : k ≡ sketch_of store
        sketch_is = (sketch_said (header_payload store) k (answered ∙ ek)).1

        accepts : header_verdict (header_payload store) ≡ Accepted
        accepts = (sketch_said (header_payload store) k (answered ∙ ek)).0

        pub load_good : numbers_verdict k ≡ Accepted
        load_good = rw sketch_is (not_refused 18 (wrong_form (header_payload store)) (numbers_verdict (sketch_of store)) accepts).1

        module _ (v : Verdict) (ok : Bool) (ev : v ≡ grid_verdict k g store) (asked : ok ≡ is_accepted v) where
          grid_left : load_verdict g store ≡ v
          grid_left = past_blocks ∙ rw (accepts, ← sketch_is) (sym ev)

          pub load_refused : (a : SketchAnswer) → not ok ≡ true → a ≡ undrawn v no_sketch → sketch_outcome a g ≡ load_call g store
          load_refused a n = unloaded a v (turned_back_lem v ok asked n) grid_left

          pub load_done : not ok ≡ false → (y : List ℕ) → y ≡ part 0 (length g) (carried store) → (a : SketchAnswer) → a ≡ undrawn v k
              → sketch_outcome a y ≡ load_call g store
          unfolding load_call
          load_done n y ey a ea =
              let able : Loadable g store = accepted_loadable g store (grid_left ∙ let_pass v ok asked n) in
              rw (ea, grid_left, let_pass v ok asked n, ← sketch_is, ey, able.kept.room, ← sketch_is)

-- what was judged of the lent grid is room for the stored one
pub load_room : (k : MicroCm) (g store : List ℕ) (v : Verdict) (ok : Bool) → v ≡ grid_verdict k g store → ok ≡ is_accepted v → not ok ≡ false
    → 0 + length g ≤ 504 * (length store / 512 - 1)
load_room k g store v ok ev asked n =
    let kept : Kept k g store = grid_kept k g store (sym ev ∙ let_pass v ok asked n) in
    omega (arith, kept.exact, kept.room)
