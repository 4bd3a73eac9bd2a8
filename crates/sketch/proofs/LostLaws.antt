-- What a call loses, by the steps that it makes; and what it does not lose. Assumes nothing.
use Prim.Native.Nat.{ℕ, ◌+◌, ◌-◌, ◌*◌, ◌<◌}
use mathlib.Core.Path.{◌≡◌, refl, ap, ◌∙◌}
use mathlib.Core.Bool.{true, false}
use mathlib.Core.List.{List}
use lib.ListN.{length}
use native.Mathlib.Nat.{zero-add}
use Rattle.laws.specs.Steps.{Step}
use Rattle.laws.specs.Passes.{each_of}
use Rattle.laws.proofs.PartLaws.{part_length, piece_room}
use Rattle.laws.proofs.SumLaws.{total_same, total_none}
use Rattle.laws.proofs.PieceLaws.{each_at}
use Rattle.laws.proofs.PieceLaws as pieces
use Rattle.refusal.specs.declared.Verdict.{Verdict}
use Rattle.refusal.specs.declared.Verdict.TheVariants.{Accepted, Refused, Unsound}
use Rattle.refusal.specs.Refusals.{is_accepted}
use Rattle.refusal.proofs.VerdictLaws.{refused_leaves}
use Rattle.refusal.proofs.GateLaws.{gate_passed}
use Rattle.cell.specs.Cell.{depth_of}
use Rattle.cell.specs.Workers.{Fit}
use Rattle.cell.proofs.MergeLaws.{Merged, merged_leaves}
use Rattle.clock.specs.declared.SubWindowClock.{SubWindowClock}
use Rattle.clock.specs.Clock.{n_of, tick_of, advance_of}
use Rattle.sketch.specs.declared.MicroCm.{MicroCm}
use Rattle.sketch.specs.Sketch.{cells_of, cell_of, World, recorded, moved, advanced}
use Rattle.sketch.specs.Merge.{merge_cell, merge_each}
use Rattle.sketch.specs.Refusals.{key_fits, refuse_sketch, world, sketch_call, fresh_verdict, fresh_call, update_verdict, update_call}
use Rattle.sketch.specs.Refusals.{update_at_verdict, update_at_call, advance_verdict, advance_call, merge_verdict, merge_call}
use Rattle.sketch.specs.Lost.{item_loss, move_loss, merge_state_at, merge_loss, NoneAtTop, Loses, GridLostMeaning}
use Rattle.sketch.proofs.JudgedLaws.{judged_all}
use Rattle.sketch.proofs.SketchGates.{sketch_gate}
use Rattle.sketch.proofs.ReadyLaws.{ready_of}
use Rattle.sketch.proofs.GridLaws.{cell_length}
use Rattle.sketch.proofs.MergeAccepted.{accepted_ready, accepted_judged, accepted_other}
use Rattle.sketch.proofs.ZoomInLaws.{key_accepted}
use Rattle.sketch.proofs.WorldLoss.{Set, set_of, some, inside, cell_fit, moved_lost, empty_moves, moved_empty, moved_set, below_empty, recorded_lost, empty_records, recorded_empty, recorded_set}

-- THE CALLS that count, where a sketch with its grid, and then perhaps a key, were accepted
module _ (k : MicroCm) (g : List ℕ) (rest : Verdict) (e : refuse_sketch k g rest ≡ Accepted) where
  judged : (refuse_sketch k g Accepted ≡ Accepted) × (rest ≡ Accepted)
  judged = gate_passed (refuse_sketch k g) (sketch_gate k g) rest e

  found : Set (world k g)
  found = set_of k g (ready_of k g judged.0)

module _ (k : MicroCm) (key g : List ℕ) (e : (update_call k key g).answer.verdict ≡ Accepted) where
  update_set : Set (world k g)
  unfolding update_call
  update_set = found k g _ e

  update_key : key_fits k key ≡ true
  unfolding update_call
  update_key = key_accepted k key _ (judged k g _ e).1

  update_lost : Loses (update_call k key g) (item_loss (world k g) key + move_loss (recorded key (world k g)) (tick_of k.clock))
  unfolding update_call
  update_lost =
      let w = world k g in
      rw e
      (moved_lost (recorded key w) (recorded_set w update_set key update_key) (tick_of k.clock)
      ∙ ap (λ (n : ℕ). n + move_loss (recorded key w) (tick_of k.clock)) (recorded_lost w update_set key update_key ∙ zero-add (item_loss w key)))

  update_below_top : NoneAtTop k g → Loses (update_call k key g) 0
  unfolding recorded
  update_below_top low =
      let w = world k g in
      let none = empty_records w update_set key update_key (below_empty w update_set low) in
      let still-none = empty_moves (recorded key w) (recorded_set w update_set key update_key) (tick_of k.clock) (recorded_empty w update_set key update_key low) in
      update_lost ∙ rw (none, still-none) refl

module _ (k : MicroCm) (key : List ℕ) (reading : ℕ) (g : List ℕ) (e : (update_at_call k key reading g).answer.verdict ≡ Accepted) where
  update_at_set : Set (world k g)
  unfolding update_at_call
  update_at_set = found k g _ e

  update_at_key : key_fits k key ≡ true
  unfolding update_at_call
  update_at_key = key_accepted k key _ (judged k g _ e).1

  abbrev later : SubWindowClock
  later = advance_of k.clock reading

  abbrev there : World
  there = advanced reading (world k g)

  there_set : Set there
  there_set = moved_set (world k g) update_at_set later

  -- the clock and the state are others, and the key fits as before
  there_key : key_fits there.sketch key ≡ true
  unfolding moved key_fits
  there_key = update_at_key

  update_at_lost : Loses (update_at_call k key reading g) (move_loss (world k g) later + item_loss there key)
  unfolding update_at_call
  update_at_lost =
      let w = world k g in
      rw e
      (recorded_lost there there_set key there_key
      ∙ ap (λ (n : ℕ). n + item_loss there key) (moved_lost w update_at_set later ∙ zero-add (move_loss w later)))

  update_at_below_top : NoneAtTop k g → Loses (update_at_call k key reading g) 0
  unfolding moved
  update_at_below_top low =
      let w = world k g in
      let none = empty_moves w update_at_set later (below_empty w update_at_set low) in
      let still-none = empty_records there there_set key there_key (moved_empty w update_at_set later low) in
      update_at_lost ∙ rw (none, still-none) refl

module _ (k : MicroCm) (reading : ℕ) (g : List ℕ) (e : (advance_call k reading g).answer.verdict ≡ Accepted) where
  advance_set : Set (world k g)
  unfolding advance_call
  advance_set = found k g _ e

  advance_lost : Loses (advance_call k reading g) (move_loss (world k g) (advance_of k.clock reading))
  unfolding advance_call
  advance_lost =
      let w = world k g in
      rw e (moved_lost w advance_set (advance_of k.clock reading) ∙ zero-add (move_loss w (advance_of k.clock reading)))

  advance_below_top : NoneAtTop k g → Loses (advance_call k reading g) 0
  advance_below_top low =
      let w = world k g in
      advance_lost ∙ empty_moves w advance_set (advance_of k.clock reading) (below_empty w advance_set low)

-- A MERGE
module _ (k : MicroCm) (g : List ℕ) (k' : MicroCm) (g' : List ℕ) (e : merge_verdict k g k' g' ≡ Accepted) where
  abbrev m : ℕ
  m = n_of k.clock

  abbrev one : ℕ → List ℕ → ℕ → Step
  one = merge_cell k m g'

  merge_set : Set (world k g)
  merge_set = set_of k g (accepted_ready k g k' g' e)

  merge_each_lost : (merge_each k m g' g k.rounding.state).lost ≡ merge_loss k g g'
  unfolding merge_each
  merge_each_lost =
      ap (λ (n : ℕ). (each_of one (depth_of k.params.t) 0 n g k.rounding.state).lost) (some (world k g) merge_set)
      ∙ pieces.each_lost one (depth_of k.params.t) (cells_of k - 1) 0 g k.rounding.state
      ∙ total_same (cells_of k - 1) _ _ (λ j l. rw (zero-add j) refl)

  other_fit : (j : ℕ) → j < cells_of k → Fit k.params.t k.params.c (length (cell_of k g' j))
  other_fit j l =
      let d = depth_of k.params.t in
      rw (part_length (j * d) d g' (piece_room d (cells_of k) j (length g') l (accepted_other k g k' g' e).room)) (accepted_other k g k' g' e).fit

  leaves : (j τ : ℕ) → j < cells_of k → Merged k.params.t k.params.c (cell_of k g j) τ (one j (cell_of k g j) τ)
  leaves j τ l =
      merged_leaves k.params.t k.params.c m (cell_of k g j) (cell_of k g' j) τ (cell_fit (world k g) merge_set j l) (other_fit j l)
      (judged_all k g j (accepted_judged k g k' g' e) l) ((accepted_other k g k' g' e).sound j l)

  merge_cell_lem : (j : ℕ) → j < cells_of k
      → cell_of k (merge_each k m g' g k.rounding.state).bytes j ≡ (one j (cell_of k g j) (merge_state_at k g g' j)).bytes
  unfolding merge_each
  merge_cell_lem j l =
      each_at one (depth_of k.params.t) (cells_of k) 0 g k.rounding.state merge_set.room
      (λ i τ h. rw (zero-add i) ((leaves i τ h).kept.long ∙ cell_length k g i merge_set.room h)) j l
      ∙ rw (zero-add j) refl

  none_cut : NoneAtTop k (merge_each k m g' g k.rounding.state).bytes → merge_loss k g g' ≡ 0
  none_cut low =
      total_none (cells_of k - 1) _
      (λ j q. let l = inside (world k g) merge_set j q in
      (leaves j (merge_state_at k g g' j) l).lost_below (rw (merge_cell_lem j l) at (low j l)))

merge_lost : (k : MicroCm) (g : List ℕ) (k' : MicroCm) (g' : List ℕ) → (merge_call k g k' g').answer.verdict ≡ Accepted
    → Loses (merge_call k g k' g') (merge_loss k g g')
unfolding merge_call
merge_lost k g k' g' e = rw e (zero-add _ ∙ merge_each_lost k g k' g' e)

merge_below_top : (k : MicroCm) (g : List ℕ) (k' : MicroCm) (g' : List ℕ) → (merge_call k g k' g').answer.verdict ≡ Accepted
    → NoneAtTop k (merge_call k g k' g').grid → Loses (merge_call k g k' g') 0
unfolding merge_call
merge_below_top k g k' g' e = rw e (λ low. zero-add _ ∙ merge_each_lost k g k' g' e ∙ none_cut k g k' g' e low)

-- REFUSED
refused : (v : Verdict) (after before : World) → before.lost ≡ 0 → is_accepted v ≡ false → Loses (sketch_call v after before) 0
refused v after before none e = ap (λ (w : World). w.lost) (refused_leaves v after before e) ∙ none

fresh_lost : (v : Verdict) (k : MicroCm) (g g' : List ℕ) (k' : MicroCm) → Loses (sketch_call v (world k g) (world k' g')) 0
fresh_lost Accepted k g g' k' = refl
fresh_lost (Refused n) k g g' k' = refl
fresh_lost (Unsound j) k g g' k' = refl

pub grid_lost_says : GridLostMeaning
unfolding update_call update_at_call advance_call merge_call fresh_call
grid_lost_says = record {
  update = update_lost;
  update_at = update_at_lost;
  advance = advance_lost;
  merge = merge_lost;
  update_below_top = update_below_top;
  update_at_below_top = update_at_below_top;
  advance_below_top = advance_below_top;
  merge_below_top = merge_below_top;
  refused_update = λ k key g. refused (update_verdict k key g) _ (world k g) refl;
  refused_update_at = λ k key reading g. refused (update_at_verdict k key reading g) _ (world k g) refl;
  refused_advance = λ k reading g. refused (advance_verdict k reading g) _ (world k g) refl;
  refused_merge = λ k g k' g'. refused (merge_verdict k g k' g') _ (world k g) refl;
  fresh = λ rows cols p clock seed g. fresh_lost (fresh_verdict rows cols p clock seed g) _ _ g _;
}
