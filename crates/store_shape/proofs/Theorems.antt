-- The shape of a store is told in a load's order, and is that of what a load gives. Assumes nothing.
use Prim.Native.Nat.{ℕ}
use mathlib.Core.Path.{◌≡◌, refl, sym, ap, ◌∙◌}
use mathlib.Core.List.{List, [], ◌∷◌}
use lib.ListN.{length}
use borrow.Author.Tests.{eq-eqb}
use Rattle.refusal.specs.declared.Verdict.{Verdict}
use Rattle.refusal.specs.declared.Verdict.TheVariants.{Accepted}
use Rattle.refusal.specs.Refusals.{when_accepted}
use Rattle.refusal.specs.Causes.{first_of, numbers_of}
use Rattle.refusal.proofs.CauseLaws.{first_append}
use Rattle.sketch.specs.declared.MicroCm.{MicroCm}
use Rattle.sketch.specs.Sketch.{grid_bytes}
use Rattle.store_header.specs.Header.{sketch_in}
use Rattle.store_header.specs.Causes.{header_causes}
use Rattle.store_header.proofs.CauseTheorems.{header_calls}
use Rattle.store.specs.Refusals.{header_payload, other_length, refuse_blocks, refuse_length, load_verdict, load_call}
use Rattle.store.proofs.LoadLaws.{Loadable, accepted_loadable, header_accepted}
use Rattle.store_shape.specs.Shape.{shaped, shape_verdict, shape_call, shape_causes, ShapeCalls}

told_is : (store : List ℕ) → shape_verdict store ≡ first_of (shape_causes store)
unfolding first_of
told_is store = ap (λ (v : Verdict). refuse_blocks store v)
    (ap by (header_calls.header p) ∙ sym (first_append (header_causes p) (other_length (grid_bytes k) store ∷ [])))
  where
    p : List ℕ
    p = header_payload store

    k : MicroCm
    k = sketch_in p

    by : Verdict → Verdict
    by v = when_accepted v (refuse_length k store Accepted) v

module _ (g store : List ℕ) (accepted : load_verdict g store ≡ Accepted) where
  able : Loadable g store
  able = accepted_loadable g store accepted

  shape_accepted : shape_verdict store ≡ Accepted
  shape_accepted = rw (able.whole, able.passes, header_accepted g store able, eq-eqb _ _ able.kept.exact) refl

  shape_loads : shape_call store ≡ shaped (load_call g store).answer.sketch (length g)
  unfolding shape_call load_call
  shape_loads = rw (shape_accepted, accepted, able.kept.room) refl

pub shape_calls : ShapeCalls
unfolding numbers_of
shape_calls = record { told = told_is; numbered = λ store. refl; loads = shape_loads }
