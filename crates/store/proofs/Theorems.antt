-- The promises of the block store: what is saved is loaded, what is loaded can be used and is saved as it was, and no byte changes unseen.
use Prim.Native.Nat.{ℕ, suc, ◌-◌, ◌*◌, ◌/◌, ◌%◌, ◌≤◌, ◌<◌}
use mathlib.Core.Path.{◌≡◌, sym, ap₂, ◌∙◌}
use mathlib.Core.Bool.{true, false, not, and-eq-true_iff}
use mathlib.Core.List.{List, ◌++◌}
use lib.Dec.{eqb}
use lib.ListN.{length, take, drop, get_or, set, replicate, length-set, length-drop, take-append-drop}
use lib.Seq.{take_at, take-take, length-take-le}
use native.Mathlib.Omega.{arith}
use borrow.Author.Tests.{eqb-true, eq-eqb, ne_eqb, not-false}
use Rattle.laws.proofs.PartLaws.{part_length}
use Rattle.refusal.specs.declared.Verdict.{Verdict}
use Rattle.refusal.specs.declared.Verdict.TheVariants.{Accepted, Refused}
use Rattle.refusal.proofs.VerdictLaws.{not_refused}
use Rattle.sketch.specs.declared.MicroCm.{MicroCm}
use Rattle.sketch.specs.Sketch.{grid_bytes, all_cells}
use Rattle.sketch.specs.Refusals.{refuse_sketch, refuse_unsound, no_sketch, sketch_outcome, undrawn, numbers_verdict}
use Rattle.store_bytes.specs.Fill.{filled}
use Rattle.store_blocks.specs.Blocks.{block_of, blocks_from, block_passes, blocks_pass, payloads_of, carried}
use Rattle.store_header.specs.Workers.{header_of}
use Rattle.store.specs.Store.{blocks_for, store_of, store_with}
use Rattle.store.specs.Workers.{grid_blocks}
use Rattle.store.specs.Refusals.{header_payload, refuse_length, load_verdict, load_call, save_verdict, save_outcome, save_call}
use Rattle.store_bytes.proofs.FillLaws.{filled_full, behind_zero, cut_alike}
use Rattle.laws.proofs.SmallLaws.{Small, small_take, small_drop}
use Rattle.store_blocks.proofs.BlockLaws.{block_same, block_back}
use Rattle.store_blocks.proofs.ChainLaws.{pass_suc, blocks_changed, blocks_back, from_alike}
use Rattle.store_blocks.proofs.ChainLoops.{carried_length}
use Rattle.store_header.proofs.HeaderLaws.{header_form, header_sketch, header_back}
use Rattle.refusal.proofs.GateLaws.{gate_passed, gate_open}
use Rattle.sketch.proofs.SketchGates.{judged, judged_gate, unsound_gate}
use Rattle.store.proofs.SettingsLaws.{Ranged, settings_fit, blocks_few}
use Rattle.store.proofs.StoreLaws.{store_length_lem, store_header, store_carries, store_passes}
use Rattle.store.proofs.LoadLaws.{sketch_of, grid_of, Loadable, accepted_loadable, loadable_accepted}

-- SAVE, THEN LOAD
record Saveable (k : MicroCm) (g : List ℕ) : Type 0 where
  good : numbers_verdict k ≡ Accepted
  room : length g ≡ grid_bytes k
  sound : refuse_unsound k g (all_cells k) Accepted ≡ Accepted

accepted_saveable : (k : MicroCm) (g store : List ℕ) → save_verdict k g store ≡ Accepted → Saveable k g
accepted_saveable k g store e =
    let settings = gate_passed (judged k) (judged_gate k) _ e in
    let room = not_refused 6 (not (eqb (length g) (grid_bytes k))) _ settings.1 in
    let sound = gate_passed (refuse_unsound k g (all_cells k)) (unsound_gate k g (all_cells k)) (refuse_length k store Accepted) room.1 in
    record { good = settings.0; room = eqb-true _ _ (not-false _ room.0); sound = sound.0 }

module _ (k : MicroCm) (g g' store : List ℕ) (range : Ranged k) (small : Small g) (saved : save_verdict k g store ≡ Accepted) (same : length g' ≡ length g) where
  able : Saveable k g
  able = accepted_saveable k g store saved

  sketch_back : sketch_of (store_of k g) ≡ k
  sketch_back = rw (store_header k g) (header_sketch k (settings_fit k able.good range))

  grid_taken : take (grid_bytes k) (carried (store_of k g)) ≡ g
  grid_taken =
      let e : grid_bytes k ≤ 504 * grid_blocks k = omega arith in
      rw (store_carries k g, take-take (grid_bytes k) (504 * grid_blocks k) (g ++ replicate (504 * grid_blocks k) 0) e)
      (take_at g (replicate (504 * grid_blocks k) 0) (grid_bytes k) able.room)

  loadable : Loadable g' (store_of k g)
  loadable = record {
    whole =
        let some : eqb (length (store_of k g)) 0 ≡ false = ne_eqb (length (store_of k g)) 0 (λ z. omega (arith, store_length_lem k g)) in
        let even : eqb (length (store_of k g) % 512) 0 ≡ true = eq-eqb (length (store_of k g) % 512) 0 (omega (arith, store_length_lem k g)) in
        rw (some, even);
    passes = store_passes k g small (blocks_few k able.good);
    form = rw (store_header k g) (header_form k (settings_fit k able.good range));
    good = rw sketch_back able.good;
    kept = record {
      exact = rw sketch_back (store_length_lem k g);
      fill = rw (sketch_back, store_carries k g, ← able.room) (behind_zero (504 * blocks_for (length g)) g);
      room = rw sketch_back (same ∙ able.room);
      sound = rw (sketch_back, grid_taken) able.sound;
    };
  }

  pub save_load : load_call g' (save_call k g store).store ≡ sketch_outcome (undrawn Accepted k) g
  unfolding load_call save_call
  save_load = rw (saved, loadable_accepted g' (store_of k g) loadable, sketch_back, grid_taken)

-- LOAD
module _ (g store : List ℕ) (loaded : load_verdict g store ≡ Accepted) where
  able_to : Loadable g store
  able_to = accepted_loadable g store loaded

  count_is : length store / 512 ≡ suc (grid_blocks (sketch_of store))
  count_is = rw able_to.kept.exact (omega arith)

  rest_long : length (drop 512 store) ≡ 512 * grid_blocks (sketch_of store)
  rest_long = length-drop 512 store ∙ rw able_to.kept.exact (omega arith)

  carried_is : carried store ≡ payloads_of (grid_blocks (sketch_of store)) (drop 512 store)
  carried_is =
      let n : length store / 512 - 1 ≡ grid_blocks (sketch_of store) = omega (arith, count_is) in
      rw n

  grid_long : length (grid_of store) ≡ grid_bytes (sketch_of store)
  grid_long =
      length-take-le (grid_bytes (sketch_of store)) (carried store) (omega (arith, carried_length store, count_is))

  pub load_call_lem : load_call g store ≡ sketch_outcome (undrawn Accepted (sketch_of store)) (grid_of store)
  unfolding load_call
  load_call_lem = rw loaded

  -- no call refuses what was loaded, by 1 to 6 or 14
  pub load_usable : (rest : Verdict)
      → refuse_sketch (sketch_of store) (grid_of store) (refuse_unsound (sketch_of store) (grid_of store) (all_cells (sketch_of store)) rest) ≡ rest
  load_usable rest =
      gate_open (judged (sketch_of store)) (judged_gate (sketch_of store)) _ able_to.good
      ∙ rw (eq-eqb _ _ grid_long)
      (gate_open (refuse_unsound (sketch_of store) (grid_of store) (all_cells (sketch_of store)))
      (unsound_gate (sketch_of store) (grid_of store) (all_cells (sketch_of store))) rest able_to.kept.sound)

  -- LOAD, THEN SAVE
  module _ (small : Small store) where
    all_pass : (block_passes 0 (take 512 store) ≡ true) × (blocks_pass 1 (grid_blocks (sketch_of store)) (drop 512 store) ≡ true)
    all_pass =
        let e : blocks_pass 0 (suc (grid_blocks (sketch_of store))) store ≡ true = rw (← count_is) able_to.passes in
        (and-eq-true_iff (block_passes 0 (take 512 store)) (blocks_pass 1 (grid_blocks (sketch_of store)) (drop 512 store))).0 (rw pass_suc at e)

    first_long : length (take 512 store) ≡ 512
    first_long = length-take-le 512 store (omega (arith, able_to.kept.exact))

    payload_long : length (header_payload store) ≡ 504
    payload_long = part_length 4 504 (take 512 store) (omega (arith, first_long))

    header_same : block_of 0 (header_of (sketch_of store)) ≡ take 512 store
    header_same =
        let first : Small (take 512 store) = small_take 512 store small in
        let payload : Small (header_payload store) = small_take 504 (drop 4 (take 512 store)) (small_drop 4 (take 512 store) first) in
        let back : filled 504 (header_of (sketch_of store)) ≡ header_payload store = header_back (header_payload store) payload_long payload able_to.form in
        block_same 0 (header_of (sketch_of store)) (header_payload store) (back ∙ sym (filled_full 504 (header_payload store) payload_long))
        ∙ block_back 0 (take 512 store) first_long all_pass.0 first

    grid_same : blocks_from 1 (grid_blocks (sketch_of store)) (grid_of store) ≡ drop 512 store
    grid_same =
        from_alike 1 (grid_blocks (sketch_of store)) (grid_of store) (carried store) (cut_alike (grid_bytes (sketch_of store)) (carried store) able_to.kept.fill)
        ∙ rw carried_is (blocks_back 1 (grid_blocks (sketch_of store)) (drop 512 store) rest_long all_pass.1 (small_drop 512 store small))

    store_same : store_of (sketch_of store) (grid_of store) ≡ store
    unfolding store_with
    store_same = ap₂ ◌++◌ header_same grid_same ∙ take-append-drop 512 store

    pub load_save : (buffer : List ℕ) → length buffer ≡ length store → save_call (sketch_of store) (grid_of store) buffer ≡ save_outcome Accepted store
    unfolding save_call
    load_save buffer e =
        let v : save_verdict (sketch_of store) (grid_of store) buffer ≡ Accepted =
        load_usable (refuse_length (sketch_of store) buffer Accepted) ∙ rw (eq-eqb _ _ (e ∙ able_to.kept.exact))
        in
        rw (v, store_same)

  -- ANY ONE CHANGED BYTE is refused by 17
  pub load_changed : (g' : List ℕ) (k v : ℕ) → k < length store → (v ≡ get_or store k 0 → ⊥)
      → load_call g' (set store k v) ≡ sketch_outcome (undrawn (Refused 17) no_sketch) g'
  unfolding load_call
  load_changed g' k v h ne =
      let whole : length store ≡ 512 * (length store / 512) = omega (arith, able_to.kept.exact) in
      rw (length-set store k v, able_to.whole, blocks_changed 0 (length store / 512) store k v whole able_to.passes h ne)
