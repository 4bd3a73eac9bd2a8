-- A load is accepted where each of its causes, in its own order, is denied: what that says of the store, both ways.
use Prim.Native.Nat.{ℕ, ◌/◌, ◌%◌}
use mathlib.Core.Path.{◌≡◌}
use mathlib.Core.Bool.{Bool, true, false, not, ◌||◌}
use mathlib.Core.List.{List}
use lib.Dec.{eqb}
use lib.ListN.{length, drop}
use borrow.Author.Tests.{eqb-true, eq-eqb, not-false}
use Rattle.refusal.specs.declared.Verdict.TheVariants.{Accepted}
use Rattle.refusal.proofs.VerdictLaws.{not_refused}
use Rattle.sketch.specs.declared.MicroCm.{MicroCm}
use Rattle.sketch.specs.Sketch.{grid_bytes, all_cells}
use Rattle.sketch.specs.Refusals.{refuse_unsound, numbers_verdict}
use Rattle.store_bytes.specs.Fill.{all_zero}
use Rattle.store_blocks.specs.Blocks.{blocks_pass, carried}
use Rattle.store_header.specs.Header.{sketch_in}
use Rattle.store_header.specs.Refusals.{wrong_form, header_verdict}
use Rattle.store.specs.Store.{store_length}
use Rattle.store.specs.Refusals.{header_payload, grid_in, grid_verdict, load_verdict}
use Rattle.refusal.proofs.GateLaws.{both_accepted}

-- what a store holds: a sketch, and its grid
abbrev pub sketch_of : List ℕ → MicroCm
sketch_of store = sketch_in (header_payload store)

abbrev pub grid_of : List ℕ → List ℕ
grid_of store = grid_in (sketch_of store) store

-- empty, or no whole number of blocks
abbrev pub broken : List ℕ → Bool
broken store = eqb (length store) 0 || not (eqb (length store % 512) 0)

-- what is left to judge behind the header
pub record Kept (k : MicroCm) (g store : List ℕ) : Type 0 where
  pub exact : length store ≡ store_length k
  pub fill : all_zero (drop (grid_bytes k) (carried store)) ≡ true
  pub room : length g ≡ grid_bytes k
  pub sound : refuse_unsound k (grid_in k store) (all_cells k) Accepted ≡ Accepted

module _ (k : MicroCm) (g store : List ℕ) where
  pub grid_kept : grid_verdict k g store ≡ Accepted → Kept k g store
  grid_kept e =
      let exact = not_refused 16 (not (eqb (length store) (store_length k))) _ e in
      let fill = not_refused 18 (not (all_zero (drop (grid_bytes k) (carried store)))) _ exact.1 in
      let room = not_refused 6 (not (eqb (length g) (grid_bytes k))) _ fill.1 in
      record { exact = eqb-true _ _ (not-false _ exact.0); fill = not-false _ fill.0; room = eqb-true _ _ (not-false _ room.0); sound = room.1 }

  kept_grid : Kept k g store → grid_verdict k g store ≡ Accepted
  kept_grid w = rw (eq-eqb _ _ w.exact, w.fill, eq-eqb _ _ w.room) w.sound

pub record Loadable (g store : List ℕ) : Type 0 where
  pub whole : broken store ≡ false
  pub passes : blocks_pass 0 (length store / 512) store ≡ true
  pub form : wrong_form (header_payload store) ≡ false
  pub good : numbers_verdict (sketch_of store) ≡ Accepted
  pub kept : Kept (sketch_of store) g store

module _ (g store : List ℕ) where
  pub accepted_loadable : load_verdict g store ≡ Accepted → Loadable g store
  accepted_loadable e =
      let blocks = not_refused 16 (broken store) _ e in
      let header = not_refused 17 (not (blocks_pass 0 (length store / 512) store)) _ blocks.1 in
      let both = both_accepted (header_verdict (header_payload store)) (grid_verdict (sketch_of store) g store) header.1 in
      let form = not_refused 18 (wrong_form (header_payload store)) _ both.0 in
      record {
        whole = blocks.0;
        passes = not-false _ header.0;
        form = form.0;
        good = form.1;
        kept = grid_kept (sketch_of store) g store both.1;
      }

  module _ (l : Loadable g store) where
    pub header_accepted : header_verdict (header_payload store) ≡ Accepted
    header_accepted = rw l.form l.good

    pub loadable_accepted : load_verdict g store ≡ Accepted
    loadable_accepted = rw (l.whole, l.passes, header_accepted) (kept_grid (sketch_of store) g store l.kept)
