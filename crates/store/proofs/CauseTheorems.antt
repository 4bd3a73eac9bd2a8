-- Each verdict is that of its list of causes: the cascade is the list, unfolded, and a load goes on where the header's causes end. Assumes nothing.
use Prim.Native.Nat.{ℕ}
use mathlib.Core.Path.{◌≡◌, refl, sym, ap, ◌∙◌}
use mathlib.Core.List.{List}
use Rattle.refusal.specs.declared.Verdict.{Verdict}
use Rattle.refusal.specs.declared.Verdict.TheVariants.{Accepted}
use Rattle.refusal.specs.Refusals.{when_accepted}
use Rattle.refusal.specs.Causes.{first_of, numbers_of, place_in, ranked_from}
use Rattle.refusal.proofs.CauseLaws.{first_append}
use Rattle.sketch.specs.declared.MicroCm.{MicroCm}
use Rattle.sketch.specs.Sketch.{all_cells}
use Rattle.sketch.proofs.CauseTheorems.{one_cause}
use Rattle.store_header.specs.Header.{sketch_in}
use Rattle.store_header.specs.Causes.{header_causes}
use Rattle.store_header.proofs.CauseTheorems.{header_calls}
use Rattle.store.specs.Refusals.{grid_in, header_payload, grid_verdict, refuse_length, refuse_blocks, load_verdict}
use Rattle.store.specs.Causes.{grid_causes, load_causes, StoreCalls}

grid_is : (k : MicroCm) (g store : List ℕ) → grid_verdict k g store ≡ first_of (grid_causes k g store)
unfolding first_of
grid_is k g store = rw (one_cause k (grid_in k store) (all_cells k) Accepted) refl

load_is : (g store : List ℕ) → load_verdict g store ≡ first_of (load_causes g store)
unfolding first_of
load_is g store = ap (λ (v : Verdict). refuse_blocks store v)
    (ap by (header_calls.header p) ∙ ap goes_on (grid_is k g store) ∙ sym (first_append (header_causes p) (grid_causes k g store)))
  where
    p : List ℕ
    p = header_payload store

    k : MicroCm
    k = sketch_in p

    by : Verdict → Verdict
    by v = when_accepted v (grid_verdict k g store) v

    goes_on : Verdict → Verdict
    goes_on v = when_accepted (first_of (header_causes p)) v (first_of (header_causes p))

pub store_calls : StoreCalls
unfolding first_of numbers_of place_in ranked_from
store_calls = record {
  save = λ k g store. record { is = rw (one_cause k g (all_cells k) (refuse_length k store Accepted)) refl; numbered = refl; ordered = refl };
  load = λ g store. record { is = load_is g store; numbered = refl };
}
