-- What a merge leaves: sound cells stay sound, the random state is as many draws on as it says, and sums are cut only at max_zoom.
use Prim.Native.Nat.{ℕ, zero, suc, ◌+◌, ◌-◌, ◌*◌, ◌≤◌, ◌<◌}
use mathlib.Core.Path.{◌≡◌, refl, ap, ◌∙◌}
use mathlib.Core.Bool.{Bool, true, false, cond}
use mathlib.Core.List.{List}
use lib.ListN.{length}
use native.Mathlib.Omega.{arith}
use native.Mathlib.Nat.{zero-add}
use Rattle.laws.specs.Steps.{Step, still, later}
use Rattle.laws.proofs.PartLaws.{part_length, piece_room}
use Rattle.laws.proofs.PieceLaws.{each_made, each_drawn}
use Rattle.rounding.specs.Draws.{state_after}
use Rattle.rounding.proofs.StateLaws.{after_add}
use Rattle.cell.specs.Cell.{depth_of, sound_of}
use Rattle.cell.specs.Insertion.{divide_each}
use Rattle.cell.specs.Crossing.{all_at_most}
use Rattle.cell.specs.Merge.{Settled, settled_later, settle_from}
use Rattle.cell.specs.Workers.{Fit}
use Rattle.cell.proofs.SettleLaws.{settles}
use Rattle.cell.proofs.MergeLaws.{Merged, merged_leaves}
use Rattle.sketch.specs.declared.MicroCm.{MicroCm}
use Rattle.sketch.specs.Sketch.{cells_of, cell_of}
use Rattle.sketch.specs.Merge.{merge_cell, merge_each}
use Rattle.sketch.specs.Workers.{SoundCells}

module _ (k : MicroCm) (n : ℕ) (other g : List ℕ) (σ : ℕ) (ok : SoundCells k.params.t k.params.c (cells_of k) g)
    (ok' : SoundCells k.params.t k.params.c (cells_of k) other) where
  abbrev depth : ℕ
  depth = depth_of k.params.t

  cell_fit : (l : List ℕ) (j : ℕ) → cells_of k * depth ≤ length l → j < cells_of k → Fit k.params.t k.params.c (length (cell_of k l j))
  cell_fit l j room h = rw (part_length (j * depth) depth l (piece_room depth (cells_of k) j (length l) h room)) ok.fit

  leaves : (j τ : ℕ) → j < cells_of k → Merged k.params.t k.params.c (cell_of k g j) τ (merge_cell k n other j (cell_of k g j) τ)
  leaves j τ h = merged_leaves k.params.t k.params.c n (cell_of k g j) (cell_of k other j) τ (cell_fit g j ok.room h)
      (cell_fit other j ok'.room h) (ok.sound j h) (ok'.sound j h)

  pub merge_each_sound : (j : ℕ) → j < cells_of k → sound_of k.params.t k.params.c (cell_of k (merge_each k n other g σ).bytes j) ≡ true
  unfolding merge_each
  merge_each_sound =
      each_made (merge_cell k n other) depth (λ b. sound_of k.params.t k.params.c b ≡ true) (cells_of k) 0 g σ ok.room
      (λ i τ h. rw zero-add ((leaves i τ h).kept.long ∙ (cell_fit g i ok.room h).size_is, (leaves i τ h).sound))

  pub merge_each_drawn : (merge_each k n other g σ).state ≡ state_after (merge_each k n other g σ).draws σ
  unfolding merge_each state_after
  merge_each_drawn = each_drawn (merge_cell k n other) depth state_after (λ τ. refl) after_add (cells_of k) 0 g σ (λ i τ h. rw zero-add (leaves i τ h).state)

-- SUMS ARE CUT ONLY AT MAX_ZOOM: settled below it they are the sums divided once for each raise, and nothing else
unfoldable pub divide_times : ℕ → ℕ → List ℕ → ℕ → Step
divide_times c zero sums σ = still sums σ
divide_times c (suc raises) sums σ = let s = divide_each c sums σ in later s.draws (divide_times c raises s.bytes s.state)

module _ (c : ℕ) where
  abbrev pub Uncut : ℕ → List ℕ → ℕ → Settled → Type 0
  Uncut z sums σ r = r.sums ≡ divide_times c (r.zoom - z) sums σ

  pub uncut_below : (left z : ℕ) (sums : List ℕ) (σ : ℕ) → (settle_from c left z sums σ).zoom < z + left → Uncut z sums σ (settle_from c left z sums σ)
  unfolding settle_from divide_times
  uncut_below zero z sums σ = λ h. absurd (omega arith)
  uncut_below (suc left) z sums σ = by (uncut_below left (z + 1) (divide_each c sums σ).bytes (divide_each c sums σ).state) (all_at_most 255 sums)
    where
      s : Step
      s = divide_each c sums σ

      next : Settled
      next = settle_from c left (z + 1) s.bytes s.state

      by : (next.zoom < z + 1 + left → Uncut (z + 1) s.bytes s.state next) → (fit : Bool)
          → (cond fit (record { zoom = z; sums = still sums σ }) (settled_later s.draws next)).zoom < z + suc left
          → Uncut z sums σ (cond fit (record { zoom = z; sums = still sums σ }) (settled_later s.draws next))
      by less true h = let e : z - z ≡ 0 = omega arith in rw e refl
      by less false h =
          let up : z + 1 ≤ next.zoom = (settles c left (z + 1) s.bytes s.state).zoom_ge in
          let e : next.zoom - z ≡ suc (next.zoom - (z + 1)) = omega arith in
          rw e (ap (later s.draws) (less (omega arith)))
