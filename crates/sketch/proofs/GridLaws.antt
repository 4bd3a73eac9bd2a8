-- A step on one cell writes that cell's bytes alone, so a grid after many steps is known cell by cell.
use Prim.Native.Nat.{ℕ, zero, suc, ◌+◌, ◌*◌, ◌≤◌, ◌<◌}
use mathlib.Core.Path.{◌≡◌, refl, sym, ap, ◌∙◌}
use mathlib.Core.Bool.{true}
use mathlib.Core.List.{List, [], ◌∷◌}
use lib.Dec.{ltb}
use lib.ListN.{length, take-append-drop}
use native.Mathlib.Omega.{arith}
use borrow.Author.Tests.{ltb-true}
use Rattle.laws.specs.Steps.{Step, still}
use Rattle.laws.specs.Passes.{each_of}
use Rattle.laws.proofs.ChoiceLaws.{both_hold}
use Rattle.laws.proofs.PartLaws.{part_length, splice_length, splice_part, piece_room, piece_other, pieces_splice}
use Rattle.laws.proofs.PassLaws.{each_length, each_piece, each_holds}
use Rattle.rounding.specs.Draws.{state_after}
use Rattle.rounding.proofs.StateLaws.{after_add}
use Rattle.cell.specs.Cell.{depth_of, sound_of}
use Rattle.cell.specs.Insertion.{insert_of}
use Rattle.cell.specs.Crossing.{cross_of}
use Rattle.cell.specs.Workers.{Fit}
use Rattle.cell.proofs.InsertionLaws.{inserted}
use Rattle.cell.proofs.CrossingLaws.{Crossed, crossed_leaves}
use Rattle.cell.proofs.LengthLaws.{cross_length}
use Rattle.sketch.specs.declared.MicroCm.{MicroCm}
use Rattle.sketch.specs.Sketch.{cells_of, cell_of, insert_at, insert_each, cross_cell, cross_each}
use Rattle.sketch.specs.Refusals.{all_below}

-- a list's first, and the rest
module _ (m x : ℕ) (xs : List ℕ) (low : all_below m (x ∷ xs) ≡ true) where
  tests : (ltb x m ≡ true) × (all_below m xs ≡ true)
  unfolding all_below
  tests = both_hold (ltb x m) (all_below m xs) low

  pub below_first : x < m
  below_first = ltb-true x m tests.0

  pub below_rest : all_below m xs ≡ true
  below_rest = tests.1

-- the state is as many draws on as a step says
abbrev pub Drawn : ℕ → Step → Type 0
Drawn σ s = s.state ≡ state_after s.draws σ

module _ (k : MicroCm) where
  -- room for every cell
  abbrev pub Holding : List ℕ → Type 0
  Holding g = cells_of k * depth_of k.params.t ≤ length g

  pub cell_length : (g : List ℕ) (j : ℕ) → Holding g → j < cells_of k → length (cell_of k g j) ≡ depth_of k.params.t
  cell_length g j room l =
      let d = depth_of k.params.t in
      part_length (j * d) d g (piece_room d (cells_of k) j (length g) l room)

-- settings that are accepted, and a cell's depth
abbrev pub Fits : MicroCm → Type 0
Fits k = Fit k.params.t k.params.c (depth_of k.params.t)

module _ (k : MicroCm) (fit : Fits k) where
  abbrev depth : ℕ
  depth = depth_of k.params.t

  pub fits_cell : (b : List ℕ) → length b ≡ depth → Fit k.params.t k.params.c (length b)
  fits_cell b e = rw e fit

  -- ONE CELL INSERTED INTO
  module _ (n j : ℕ) (g : List ℕ) (σ : ℕ) (room : Holding k g) (l : j < cells_of k) where
    abbrev after : List ℕ
    after = (insert_of k.params.t k.params.c n (cell_of k g j) σ).bytes

    here : Fit k.params.t k.params.c (length (cell_of k g j))
    here = fits_cell (cell_of k g j) (cell_length k g j room l)

    long : length after ≡ depth
    long = (inserted k.params.t k.params.c n (cell_of k g j) σ here).kept.long ∙ cell_length k g j room l

    at_room : j * depth + depth ≤ length g
    at_room = piece_room depth (cells_of k) j (length g) l room

    pub at_here : cell_of k (insert_at k n j g σ).bytes j ≡ after
    unfolding insert_at
    at_here = splice_part (j * depth) depth after g at_room long

    pub at_other : (i : ℕ) → (i ≡ j → ⊥) → cell_of k (insert_at k n j g σ).bytes i ≡ cell_of k g i
    unfolding insert_at
    at_other i ne = piece_other depth (cells_of k) j after g l room long i ne

    pub at_length : length (insert_at k n j g σ).bytes ≡ length g
    unfolding insert_at
    at_length = splice_length (j * depth) depth after g at_room long

    pub still_room : Holding k (insert_at k n j g σ).bytes
    still_room = rw at_length room

    pub at_drawn : Drawn σ (insert_at k n j g σ)
    unfolding insert_at
    at_drawn = (inserted k.params.t k.params.c n (cell_of k g j) σ here).state

    pub at_light : (insert_at k n j g σ).lost ≤ 1
    unfolding insert_at
    at_light = (inserted k.params.t k.params.c n (cell_of k g j) σ here).lost

  -- EACH OF THESE CELLS INSERTED INTO
  module _ (n : ℕ) where
    pub insert_each_length : (js g : List ℕ) (σ : ℕ) → all_below (cells_of k) js ≡ true → Holding k g → length (insert_each k n js g σ).bytes ≡ length g
    unfolding insert_each
    insert_each_length [] g σ low room = refl
    insert_each_length (j ∷ js) g σ low room =
        let l = below_first (cells_of k) j js low in
        insert_each_length js (insert_at k n j g σ).bytes (insert_at k n j g σ).state (below_rest (cells_of k) j js low) (still_room n j g σ room l)
        ∙ at_length n j g σ room l

    pub insert_each_drawn : (js g : List ℕ) (σ : ℕ) → all_below (cells_of k) js ≡ true → Holding k g → Drawn σ (insert_each k n js g σ)
    unfolding insert_each state_after
    insert_each_drawn [] g σ low room = refl
    insert_each_drawn (j ∷ js) g σ low room =
        let l = below_first (cells_of k) j js low in
        let s = insert_at k n j g σ in
        insert_each_drawn js s.bytes s.state (below_rest (cells_of k) j js low) (still_room n j g σ room l)
        ∙ ap (state_after (insert_each k n js s.bytes s.state).draws) (at_drawn n j g σ room l)
        ∙ sym (after_add s.draws (insert_each k n js s.bytes s.state).draws σ)

    -- what an insertion keeps of a cell, and every cell has, every cell has afterwards
    module _ (P : List ℕ → Type 0) (keeps : (b : List ℕ) (σ : ℕ) → length b ≡ depth → P b → P (insert_of k.params.t k.params.c n b σ).bytes) where
      at_keeps : (j : ℕ) (g : List ℕ) (σ : ℕ) → Holding k g → j < cells_of k → ((i : ℕ) → i < cells_of k → P (cell_of k g i)) → (i : ℕ) → i < cells_of k
          → P (cell_of k (insert_at k n j g σ).bytes i)
      unfolding insert_at
      at_keeps j g σ room l all =
          pieces_splice depth (cells_of k) j (after n j g σ room l) g l room (long n j g σ room l) (λ i. P)
          (keeps (cell_of k g j) σ (cell_length k g j room l) (all j l)) all

      pub insert_each_keeps : (js g : List ℕ) (σ : ℕ) → all_below (cells_of k) js ≡ true → Holding k g → ((i : ℕ) → i < cells_of k → P (cell_of k g i))
          → (i : ℕ) → i < cells_of k → P (cell_of k (insert_each k n js g σ).bytes i)
      unfolding insert_each
      insert_each_keeps [] g σ low room all = all
      insert_each_keeps (j ∷ js) g σ low room all =
          let l = below_first (cells_of k) j js low in
          insert_each_keeps js (insert_at k n j g σ).bytes (insert_at k n j g σ).state (below_rest (cells_of k) j js low) (still_room n j g σ room l)
          (at_keeps j g σ room l all)

  -- EVERY CELL CROSSED
  module _ (n crossed : ℕ) (g : List ℕ) (σ : ℕ) (room : Holding k g) where
    crossed_length : (j : ℕ) (b : List ℕ) (τ : ℕ) → length b ≡ depth → length (cross_cell k n crossed j b τ).bytes ≡ depth
    crossed_length j b τ e = cross_length k.params.t k.params.c n crossed b τ (fits_cell b e) ∙ e

    pub cross_each_length : length (cross_each k n crossed g σ).bytes ≡ length g
    unfolding cross_each
    cross_each_length = each_length (cross_cell k n crossed) depth crossed_length (cells_of k) 0 g σ room

    pub cross_each_cell : (j : ℕ) → j < cells_of k
        → cell_of k (cross_each k n crossed g σ).bytes j ≡ (cross_of k.params.t k.params.c n crossed (cell_of k g j)
        (each_of (cross_cell k n crossed) depth 0 j g σ).state).bytes
    unfolding cross_each
    cross_each_cell j l = each_piece (cross_cell k n crossed) depth crossed_length (cells_of k) 0 j g σ l room

    module _ (sound : (j : ℕ) → j < cells_of k → sound_of k.params.t k.params.c (cell_of k g j) ≡ true) where
      leaves : (j τ : ℕ) → j < cells_of k → Crossed k.params.t k.params.c (cell_of k g j) τ (cross_cell k n crossed j (cell_of k g j) τ)
      leaves j τ l = crossed_leaves k.params.t k.params.c n crossed (cell_of k g j) τ (fits_cell (cell_of k g j) (cell_length k g j room l)) (sound j l)

      pub cross_each_sound : (j : ℕ) → j < cells_of k → sound_of k.params.t k.params.c (cell_of k (cross_each k n crossed g σ).bytes j) ≡ true
      cross_each_sound j l = rw (cross_each_cell j l) (leaves j (each_of (cross_cell k n crossed) depth 0 j g σ).state l).sound

      pub cross_each_drawn : Drawn σ (cross_each k n crossed g σ)
      unfolding cross_each state_after
      cross_each_drawn =
          each_holds (cross_cell k n crossed) depth crossed_length (cells_of k) 0 g σ room (λ i d s. s ≡ state_after d σ) refl
          (λ i d s l e. let more = (cross_cell k n crossed i (cell_of k g i) s).draws in (leaves i s l).state ∙ ap (state_after more) e ∙ sym (after_add d more σ))
          (cells_of k) (omega arith)

-- A CROSSING BY 0 of every cell does nothing
each_none : (t c n size count j : ℕ) (g : List ℕ) (σ : ℕ) → each_of (λ i b τ. cross_of t c n 0 b τ) size j count g σ ≡ still g σ
unfolding each_of cross_of
each_none t c n size zero j g σ = refl
each_none t c n size (suc count) j g σ = rw (each_none t c n size count (suc j) _ σ) (simp take-append-drop)

pub cross_none : (k : MicroCm) (n : ℕ) (g : List ℕ) (σ : ℕ) → cross_each k n 0 g σ ≡ still g σ
unfolding cross_each
cross_none k n g σ = each_none k.params.t k.params.c n (depth_of k.params.t) (cells_of k) 0 g σ
