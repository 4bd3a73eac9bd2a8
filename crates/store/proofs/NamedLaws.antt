-- A save and a load search a whole grid, lent or stored: what is promised of a grid is promised of each. Assumes nothing.
use Prim.Native.Nat.{ℕ}
use mathlib.Core.Path.{◌≡◌, refl, sym, ap, ◌∙◌}
use mathlib.Core.List.{List, [], ◌∷◌, ◌++◌}
use Rattle.refusal.specs.declared.Verdict.{Verdict}
use Rattle.refusal.specs.Refusals.{number_of, index_of}
use Rattle.refusal.specs.Causes.{Cause, First}
use Rattle.refusal.specs.Named.{Names, SameAnswer}
use Rattle.refusal.proofs.CauseLaws.{first_told}
use Rattle.refusal.proofs.NamedLaws.{none_is, two_cores}
use Rattle.sketch.specs.Sketch.{grid_bytes, all_cells}
use Rattle.sketch.specs.Refusals.{bad_grid}
use Rattle.sketch.specs.Causes.{sketch_causes}
use Rattle.sketch.specs.Named.{GridCell}
use Rattle.sketch.proofs.NamedLaws.{cells_name, cells_clear, cells_judge, grid_searched, one_named}
use Rattle.store_header.specs.Header.{sketch_in}
use Rattle.store_header.specs.Causes.{header_causes}
use Rattle.store.specs.Refusals.{other_length, no_blocks, bad_block, bad_fill, grid_in, header_payload, save_call, load_call}
use Rattle.store.specs.Causes.{load_causes}
use Rattle.store.specs.Named.{SmallestStored, StoreNames}
use Rattle.store.proofs.CauseTheorems.{store_calls}

-- what a load asks before the stored cells
abbrev load_asked : List ℕ → List ℕ → List Cause
load_asked g store =
    let p = header_payload store in
    let k = sketch_in p in
    no_blocks store ∷ bad_block store ∷ header_causes p ++ other_length (grid_bytes k) store ∷ bad_fill (grid_bytes k) store ∷ bad_grid k g ∷ []

load_names : (g store : List ℕ) → Names (load_call g store).answer.verdict (SmallestStored store)
unfolding none_is load_call
load_names g store =
    let k = sketch_in (header_payload store) in
    cells_name (GridCell k) k (grid_in k store) (all_cells k) (load_asked g store) [] refl refl (λ past. grid_searched k (grid_in k store)) _
    (store_calls.load g store).is

load_first : (g store : List ℕ) → First (load_call g store).answer.verdict (load_causes g store)
unfolding load_call
load_first g store = first_told _ _ (store_calls.load g store)

-- ANOTHER CORE'S LOAD: the first cause that holds has one number, and one index alone is promised
load_same : (g store : List ℕ) (v w : Verdict) → First w (load_causes g store) → number_of v ≡ number_of w → Names v (SmallestStored store)
    → SameAnswer v (load_call g store).answer.verdict
load_same g store v w f e names =
    let k = sketch_in (header_payload store) in
    let ours = (load_call g store).answer.verdict in
    let number : number_of v ≡ number_of ours = e ∙ ap number_of (two_cores.same_load (load_causes g store) w ours f (load_first g store)) in
    record {
      number = number;
      index = λ q. one_named.one (GridCell k) k (grid_in k store) (index_of v) (index_of ours) (names q) (load_names g store (sym number ∙ q));
    }

pub store_names : StoreNames
unfolding none_is save_call load_call
store_names = record {
  save = λ k g store.
      cells_judge (GridCell k) k g (all_cells k) (sketch_causes k g) (other_length (grid_bytes k) store ∷ []) refl refl (λ past. grid_searched k g) _ _
      (store_calls.save k g store);
  load = load_first;
  load_same = load_same;
  load_names = load_names;
  load_clear = λ g store.
      let k = sketch_in (header_payload store) in
      cells_clear (GridCell k) k (grid_in k store) (all_cells k) (load_asked g store) [] refl refl (λ past. grid_searched k (grid_in k store)) _
      (store_calls.load g store).is;
}
