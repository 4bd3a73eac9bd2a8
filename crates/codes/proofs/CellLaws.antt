-- The cells judged are gone through in grid order: so all of the codes' cells are sound, or the first that is not is the smallest. Assumes nothing.
use Prim.Native.Nat.{ℕ, zero, suc, ◌+◌, ◌≤◌, ◌<◌}
use mathlib.Core.Path.{◌≡◌, refl, sym, ◌∙◌}
use mathlib.Core.Bool.{Bool, true, false, cond, ◌||◌, true≢false}
use mathlib.Core.List.{List, [], ◌∷◌}
use native.Mathlib.Omega.{arith}
use native.Mathlib.Nat.{add-zero}
use native.Mathlib.Decide.{ℕ_discrete}
use lib.ListN.{length, get_or}
use Rattle.refusal.specs.declared.Verdict.{Verdict}
use Rattle.refusal.specs.declared.Verdict.TheVariants.{Accepted, Unsound}
use Rattle.refusal.proofs.VerdictLaws.{refused_never}
use Rattle.cell.specs.Cell.{sound_of}
use Rattle.sketch.specs.declared.MicroCm.{MicroCm}
use Rattle.sketch.specs.Sketch.{cell_index, cell_of, key_cells, count_from}
use Rattle.sketch.specs.Audit.{first_unsound}
use Rattle.sketch.specs.Refusals.{refuse_unsound}
use Rattle.sketch.specs.Workers.{Judged}
use Rattle.sketch.proofs.JudgedLaws.{judged_cons, cons_judged}
use Rattle.codes.specs.Codes.{code_in, code_cells, is_in, those}
use Rattle.codes.proofs.InLaws.{or_where, or_true, in_where, in_first, in_later, not_in_none, in_append}

module _ (k : MicroCm) where
  -- A KEY'S CELLS: one in each row
  pub key_cell_in : (key : List ℕ) (row i : ℕ) → i < length key → is_in (cell_index k (row + i) (get_or key i 0)) (key_cells k row key) ≡ true
  unfolding key_cells
  key_cell_in [] row i h = absurd (omega arith)
  key_cell_in (x ∷ xs) row zero h = rw add-zero (in_first (cell_index k row x) (cell_index k row x) (key_cells k (suc row) xs) refl)
  key_cell_in (x ∷ xs) row (suc i) h =
      let e : row + suc i ≡ suc row + i = omega arith in
      rw e (in_later (cell_index k (suc row + i) (get_or xs i 0)) (cell_index k row x) (key_cells k (suc row) xs) (key_cell_in xs (suc row) i (omega arith)))

  pub key_cell_where : (key : List ℕ) (row j : ℕ) → is_in j (key_cells k row key) ≡ true → (i : ℕ) × (i < length key) × (j ≡ cell_index k (row + i) (get_or key i 0))
  unfolding key_cells
  key_cell_where [] row j e = absurd (true≢false (sym e ∙ not_in_none j))
  key_cell_where (x ∷ xs) row j e =
      in_where j (cell_index k row x) (key_cells k (suc row) xs) e ((i : ℕ) × (i < suc (length xs)) × (j ≡ cell_index k (row + i) (get_or (x ∷ xs) i 0)))
      (λ same. (0, omega arith, sym same ∙ rw add-zero refl))
      (λ later.
      let it = key_cell_where xs (suc row) j later in
      let q : row + suc it.0 ≡ suc row + it.0 = omega arith in
      (suc it.0, omega (arith, it.1), it.2 ∙ rw q refl))

  -- THE CODES' CELLS
  module _ (columns : List ℕ) where
    abbrev code_cells_of : ℕ → List ℕ
    code_cells_of i = key_cells k 0 (code_in k.rows columns i)

    pub code_cell_in : (n i j : ℕ) → i < n → is_in j (code_cells_of i) ≡ true → is_in j (code_cells k columns n) ≡ true
    unfolding code_cells
    code_cell_in zero i j h e = absurd (omega arith)
    code_cell_in (suc n) i j h e = in_append j (code_cells k columns n) (code_cells_of n) ∙ by (ℕ_discrete i n) (λ l. code_cell_in n i j l e)
      where
        by : Dec (i ≡ n) → (i < n → is_in j (code_cells k columns n) ≡ true) → (is_in j (code_cells k columns n) || is_in j (code_cells_of n)) ≡ true
        by (yes same) earlier = rw (← same, e) (or_true (is_in j (code_cells k columns i)))
        by (no other) earlier = rw (earlier (omega arith)) refl

    pub code_cell_where : (n j : ℕ) → is_in j (code_cells k columns n) ≡ true → (i : ℕ) × (i < n) × (is_in j (code_cells_of i) ≡ true)
    unfolding code_cells
    code_cell_where zero j e = absurd (true≢false (sym e ∙ not_in_none j))
    code_cell_where (suc n) j e =
        or_where (is_in j (code_cells k columns n)) (is_in j (code_cells_of n)) (sym (in_append j (code_cells k columns n) (code_cells_of n)) ∙ e)
        ((i : ℕ) × (i < suc n) × (is_in j (code_cells_of i) ≡ true))
        (λ earlier. let it = code_cell_where n j earlier in (it.0, omega (arith, it.1), it.2))
        (λ last. (n, omega arith, last))

module _ (k : MicroCm) (g : List ℕ) where
  abbrev sound_at : ℕ → Bool
  sound_at j = sound_of k.params.t k.params.c (cell_of k g j)

  -- cells of which each is sound
  pub sound_judged : (cells : List ℕ) → ((j : ℕ) → is_in j cells ≡ true → sound_at j ≡ true) → Judged k g cells
  unfolding first_unsound
  sound_judged [] sound = refl
  sound_judged (x ∷ xs) sound = cons_judged k g x xs (sound x (in_first x x xs refl)) (sound_judged xs (λ j e. sound j (in_later j x xs e)))

  -- THE VERDICT over some cells accepts them all, or names one
  pub told_where : (cells : List ℕ) (A : Type 0) → (Judged k g cells → A) → ((j : ℕ) → refuse_unsound k g cells Accepted ≡ Unsound j → A) → A
  unfolding first_unsound
  told_where [] A all one = all refl
  told_where (x ∷ xs) A all one = by (sound_at x) (told_where xs A) all one
    where
      told : Bool → Verdict
      told b = cond b (refuse_unsound k g xs Accepted) (Unsound x)

      by : (b : Bool) → ((told true ≡ Accepted → A) → ((j : ℕ) → told true ≡ Unsound j → A) → A)
          → (told b ≡ Accepted → A) → ((j : ℕ) → told b ≡ Unsound j → A) → A
      by true later all one = later all one
      by false later all one = one x refl

  -- OF CELLS IN GRID ORDER those that stand in a list
  module _ (list : List ℕ) where
    abbrev cells_from : ℕ → ℕ → List ℕ
    cells_from first count = those list (count_from first count)

    -- this one is no reason to refuse
    abbrev Passes : ℕ → Type 0
    Passes j = is_in j list ≡ true → sound_at j ≡ true

    pub those_judged : (count first : ℕ) → Judged k g (cells_from first count) → (j : ℕ) → first ≤ j → j < first + count → Passes j
    unfolding those count_from
    those_judged zero first w j low high = absurd (omega arith)
    those_judged (suc count) first w j low high = by (is_in first list) refl w (λ rest l. those_judged count (suc first) rest j l (omega arith))
      where
        rest : List ℕ
        rest = cells_from (suc first) count

        on : Passes first → (first < j → Passes j) → Dec (j ≡ first) → Passes j
        on here later (yes same) = rw same here
        on here later (no other) = later (omega arith)

        by : (x : Bool) → is_in first list ≡ x → Judged k g (cond x (first ∷ rest) rest) → (Judged k g rest → first < j → Passes j) → Passes j
        by true q w later =
            let parts = judged_cons k g first rest w in
            on (λ e. parts.0) (later parts.1) (ℕ_discrete j first)
        by false q w later = on (λ e. absurd (true≢false (sym e ∙ q))) (later w) (ℕ_discrete j first)

    -- THE CELL that 14 names
    pub record FirstOfThose (first last j : ℕ) : Type 0 where
      pub low : first ≤ j
      pub high : j < last
      pub listed : is_in j list ≡ true
      pub bad : sound_at j ≡ false
      pub earlier : (i : ℕ) → first ≤ i → i < j → Passes i

    those_here : (first count : ℕ) → is_in first list ≡ true → sound_at first ≡ false → FirstOfThose first (first + suc count) first
    those_here first count e b = record { low = omega arith; high = omega arith; listed = e; bad = b; earlier = λ i l h. absurd (omega arith) }

    those_later : (first count j : ℕ) → Passes first → FirstOfThose (suc first) (suc first + count) j → FirstOfThose first (first + suc count) j
    those_later first count j here w =
        record {
          low = omega (arith, w.low);
          high = omega (arith, w.high);
          listed = w.listed;
          bad = w.bad;
          earlier = λ i l h. by i l h (ℕ_discrete i first);
        }
      where
        by : (i : ℕ) → first ≤ i → i < j → Dec (i ≡ first) → Passes i
        by i l h (yes same) = rw same here
        by i l h (no other) = w.earlier i (omega arith) h

    pub those_named : (count first j : ℕ) → refuse_unsound k g (cells_from first count) Accepted ≡ Unsound j → FirstOfThose first (first + count) j
    unfolding those count_from first_unsound
    those_named zero first j e = absurd (refused_never (Unsound j) refl (sym e))
    those_named (suc count) first j e = by (is_in first list) refl (sound_at first) refl (those_named count (suc first) j) e
      where
        rest : Verdict
        rest = refuse_unsound k g (cells_from (suc first) count) Accepted

        by : (x : Bool) → is_in first list ≡ x → (s : Bool) → sound_at first ≡ s → (rest ≡ Unsound j → FirstOfThose (suc first) (suc first + count) j)
            → refuse_unsound k g (cond x (first ∷ cells_from (suc first) count) (cells_from (suc first) count)) Accepted ≡ Unsound j
            → FirstOfThose first (first + suc count) j
        by false q s t later e = those_later first count j (λ e'. absurd (true≢false (sym e' ∙ q))) (later e)
        by true q true t later e = those_later first count j (λ e'. t) (later (rw t at e))
        by true q false t later e =
            let named : Unsound first ≡ Unsound j = rw t at e in
            let same : first ≡ j = cc in
            rw (← same) (those_here first count q t)
