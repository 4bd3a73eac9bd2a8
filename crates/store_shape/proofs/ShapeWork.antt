-- The ways through the shape of a store: each way out is what its definition gives there. Assumes nothing.
use Prim.Native.Nat.{ℕ, ◌+◌, ◌*◌, ◌/◌, ◌≤◌}
use mathlib.Core.Path.{◌≡◌, refl, sym, ap, ◌∙◌}
use mathlib.Core.Bool.{Bool, true, false, not}
use mathlib.Core.List.{List, []}
use lib.ListN.{length}
use native.Mathlib.Omega.{arith}
use borrow.Author.Tests.{eq-eqb, ne_eqb}
use Rattle.laws.specs.Parts.{part}
use Rattle.refusal.specs.declared.Verdict.{Verdict}
use Rattle.refusal.specs.declared.Verdict.TheVariants.{Accepted}
use Rattle.refusal.specs.declared.Verdict.TheVariants as verdict
use Rattle.refusal.specs.Refusals.{is_accepted, and_then}
use Rattle.refusal.proofs.VerdictLaws.{refused_leaves, turned_back_lem, let_pass, not_refused}
use Rattle.refusal.proofs.GateLaws.{gate_open, gate_shut}
use Rattle.sketch.specs.declared.MicroCm.{MicroCm}
use Rattle.sketch.specs.Sketch.{grid_bytes}
use Rattle.sketch.specs.Refusals.{numbers_verdict}
use Rattle.store_header.specs.declared.Header.{Header}
use Rattle.store_header.specs.declared.Header.TheVariants.{Sketch, Refused}
use Rattle.store_header.specs.Refusals.{wrong_form, header_verdict, header_in, header_number}
use Rattle.store_header.proofs.AnswerLaws.{header_refused, sketch_said}
use Rattle.store_bytes.proofs.FillLaws.{part_take}
use Rattle.store.specs.Store.{store_length}
use Rattle.store.specs.Workers.{Sized}
use Rattle.store.specs.Refusals.{refuse_blocks, refuse_length, header_payload}
use Rattle.store.proofs.GateLaws.{blocks_gate}
use Rattle.store.proofs.LoadLaws.{sketch_of}
use Rattle.store.proofs.LoadWork.{load_long, load_payload}
use Rattle.store_shape.specs.declared.ShapeAnswer.{ShapeAnswer}
use Rattle.store_shape.specs.Shape.{shaped, shapeless, shape_verdict, shape_call}

module _ (store : List ℕ) where
  abbrev left : Verdict
  left = and_then (header_verdict (header_payload store)) (refuse_length (sketch_of store) store Accepted)

  unshaped : (v : Verdict) → is_accepted v ≡ false → shape_verdict store ≡ v → (a : ShapeAnswer) → a ≡ shapeless v → a ≡ shape_call store
  unfolding shape_call
  unshaped v n e a ea =
      ea ∙ rw e (sym (refused_leaves v (shaped (sketch_of store) (grid_bytes (sketch_of store))) (shapeless v) n))

  module _ (b : Verdict) (sound : Bool) (eb : b ≡ refuse_blocks store Accepted) (told : sound ≡ is_accepted b) where
    pub shape_damaged : not sound ≡ true → (a : ShapeAnswer) → a ≡ shapeless b → a ≡ shape_call store
    shape_damaged n =
        unshaped b (turned_back_lem b sound told n) (gate_shut (refuse_blocks store) (blocks_gate store) left b eb (turned_back_lem b sound told n))

    pub shape_long : not sound ≡ false → 508 ≤ length store
    shape_long m = load_long [] store b sound eb told m

    pub shape_payload : not sound ≡ false → length (part 4 504 store) ≡ 504
    shape_payload m = load_payload [] store b sound eb told m

    module _ (m : not sound ≡ false) (h : Header) (eh : h ≡ header_in (part 4 504 store)) where
      past_blocks : shape_verdict store ≡ left
      past_blocks = gate_open (refuse_blocks store) (blocks_gate store) left (sym eb ∙ let_pass b sound told m)

      answered : header_in (header_payload store) ≡ h
      answered = ap header_in (part_take 4 504 512 store (omega arith)) ∙ sym eh

      pub shape_header : (n i : ℕ) → h ≡ Refused n → i ≡ header_number h → (a : ShapeAnswer) → a ≡ shapeless (verdict.Refused i) → a ≡ shape_call store
      shape_header n i en ei =
          let e : i ≡ n = ei ∙ ap header_number en in
          unshaped (verdict.Refused i) refl (past_blocks ∙ rw (header_refused (header_payload store) n (answered ∙ en)) (ap verdict.Refused (sym e)))

      module _ (k : MicroCm) (ek : h ≡ Sketch k) where
        sketch_is : k ≡ sketch_of store
        sketch_is = (sketch_said (header_payload store) k (answered ∙ ek)).1

        accepts : header_verdict (header_payload store) ≡ Accepted
        accepts = (sketch_said (header_payload store) k (answered ∙ ek)).0

        pub shape_good : numbers_verdict k ≡ Accepted
        shape_good = rw sketch_is (not_refused 18 (wrong_form (header_payload store)) (numbers_verdict (sketch_of store)) accepts).1

        module _ (size n : ℕ) (sized : Sized k size) (en : n ≡ 512 * (1 + (size + 503) / 504)) where
          exact : n ≡ store_length k
          exact = en ∙ rw sized.is

          length_left : shape_verdict store ≡ refuse_length k store Accepted
          length_left = past_blocks ∙ rw (accepts, ← sketch_is) refl

          pub shape_length : (length store ≡ n → ⊥) → (a : ShapeAnswer) → a ≡ shapeless (verdict.Refused 16) → a ≡ shape_call store
          shape_length h =
              unshaped (verdict.Refused 16) refl (length_left ∙ rw (ne_eqb (length store) (store_length k) (λ e. h (e ∙ sym exact))) refl)

          pub shape_done : length store ≡ n → (a : ShapeAnswer) → a ≡ shaped k size → a ≡ shape_call store
          unfolding shape_call
          shape_done fits a ea =
              let e : shape_verdict store ≡ Accepted = length_left ∙ rw (eq-eqb (length store) (store_length k) (fits ∙ exact)) refl in
              ea ∙ rw (e, ← sketch_is, sized.is) refl
