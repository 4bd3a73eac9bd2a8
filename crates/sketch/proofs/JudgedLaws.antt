-- Cells that were judged are sound, each of them: a list of cells is judged from its first on. Assumes nothing.
use Prim.Native.Nat.{ℕ, zero, suc, ◌+◌, ◌<◌}
use mathlib.Core.Path.{◌≡◌, refl}
use mathlib.Core.Bool.{Bool, true, false, cond}
use mathlib.Core.List.{List, [], ◌∷◌}
use native.Mathlib.Omega.{arith}
use native.Mathlib.Nat.{add-zero, zero-add}
use lib.ListN.{length, get_or}
use Rattle.refusal.specs.declared.Verdict.{Verdict}
use Rattle.refusal.specs.declared.Verdict.TheVariants.{Accepted, Unsound}
use Rattle.cell.specs.Cell.{sound_of}
use Rattle.sketch.specs.declared.MicroCm.{MicroCm}
use Rattle.sketch.specs.Sketch.{cells_of, cell_of, cell_index, key_cells, count_from, all_cells}
use Rattle.sketch.specs.Audit.{first_unsound}
use Rattle.sketch.specs.Workers.{Ready, Judged, SoundCells}
use Rattle.sketch.proofs.AddressLaws.{cells_few}

never : (j : ℕ) → Unsound j ≡ Accepted → ⊥
never j e = let z : ◌≡◌ {A = ℕ} 0 1 = cc in omega arith

module _ (k : MicroCm) (g : List ℕ) where
  abbrev sound_at : ℕ → Bool
  sound_at j = sound_of k.params.t k.params.c (cell_of k g j)

  pub judged_cons : (j : ℕ) (js : List ℕ) → Judged k g (j ∷ js) → (sound_at j ≡ true) × Judged k g js
  unfolding first_unsound
  judged_cons j js = by (sound_at j) (first_unsound Unsound Accepted k g js)
    where
      by : (x : Bool) (rest : Verdict) → cond x rest (Unsound j) ≡ Accepted → (x ≡ true) × (rest ≡ Accepted)
      by true rest e = (refl, e)
      by false rest e = absurd (never j e)

  pub cons_judged : (j : ℕ) (js : List ℕ) → sound_at j ≡ true → Judged k g js → Judged k g (j ∷ js)
  unfolding first_unsound
  cons_judged j js e w = rw e w

  -- the key's cell in each row
  pub judged_key : (key : List ℕ) (first i : ℕ) → Judged k g (key_cells k first key) → i < length key → sound_at (cell_index k (first + i) (get_or key i 0)) ≡ true
  unfolding key_cells
  judged_key [] first i w h = absurd (omega arith)
  judged_key (col ∷ key) first zero w h = rw add-zero (judged_cons (cell_index k first col) (key_cells k (suc first) key) w).0
  judged_key (col ∷ key) first (suc i) w h =
      let e : first + suc i ≡ suc first + i = omega arith in
      rw e (judged_key key (suc first) i (judged_cons (cell_index k first col) (key_cells k (suc first) key) w).1 (omega arith))

  -- every cell
  pub judged_count : (count first i : ℕ) → Judged k g (count_from first count) → i < count → sound_at (first + i) ≡ true
  unfolding count_from
  judged_count zero first i w h = absurd (omega arith)
  judged_count (suc count) first zero w h = rw add-zero (judged_cons first (count_from (suc first) count) w).0
  judged_count (suc count) first (suc i) w h =
      let e : first + suc i ≡ suc first + i = omega arith in
      rw e (judged_count count (suc first) i (judged_cons first (count_from (suc first) count) w).1 (omega arith))

  pub judged_all : (j : ℕ) → Judged k g (all_cells k) → j < cells_of k → sound_at j ≡ true
  judged_all j w h = rw zero-add at (judged_count (cells_of k) 0 j w h)

-- every cell of a grid, as a pass over it takes them
pub sound_cells : (k : MicroCm) (g : List ℕ) → Ready k (length g) → Judged k g (all_cells k) → SoundCells k.params.t k.params.c (cells_of k) g
sound_cells k g r w =
    record {
      fit = r.fit;
      few = cells_few k (length g) r;
      room = omega (arith, r.size_is);
      sound = λ i h. judged_all k g i w h;
    }
