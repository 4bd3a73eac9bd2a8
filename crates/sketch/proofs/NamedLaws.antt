-- A search names the unsound cell at the first place of its list; lists of cells rise, so that it is the smallest. Assumes nothing.
use Prim.Native.Nat.{ℕ, zero, suc, ◌+◌, ◌*◌, ◌≤◌, ◌<◌}
use mathlib.Core.Path.{◌≡◌, refl, sym, ap, ◌∙◌}
use mathlib.Core.Bool.{Bool, true, false, not, cond, ◌||◌, true≢false}
use mathlib.Core.List.{List, [], ◌∷◌, ◌++◌}
use native.Mathlib.Omega.{arith}
use native.Mathlib.Nat.{le_refl, add-zero, zero-add, suc-mul, mul-le-mul_right}
use lib.Dec.{ltb, eqb}
use lib.ListN.{length, get_or}
use borrow.Author.Tests.{eqb-true, eqb-false, ltb-true, ltb-false, not-false}
use Rattle.refusal.specs.declared.Verdict.{Verdict}
use Rattle.refusal.specs.declared.Verdict.TheVariants.{Accepted}
use Rattle.refusal.specs.Refusals.{number_of, index_of}
use Rattle.refusal.specs.Causes.{Cause, unsound, first_of, applies, paired, Told}
use Rattle.refusal.specs.Named.{Names, Keeps, SameAnswer}
use Rattle.refusal.proofs.CauseLaws.{first_fails, first_append, none_applies, lowest_told}
use Rattle.refusal.proofs.GateLaws.{both_accepted}
use Rattle.refusal.proofs.NamedLaws.{none_is, told_behind, unsound_told, unsound_denied, two_cores}
use Rattle.clock.specs.declared.SubWindowClock.{SubWindowClock}
use Rattle.clock.specs.Clock.{n_of, tick_of, advance_of}
use Rattle.clock.specs.Refusals.{is_timed, is_counted}
use Rattle.sketch.specs.declared.MicroCm.{MicroCm}
use Rattle.sketch.specs.declared.Finding.{Finding}
use Rattle.sketch.specs.declared.Finding.TheVariants as finding
use Rattle.sketch.specs.Sketch.{cells_of, cell_index, key_cells, count_from, all_cells}
use Rattle.sketch.specs.Figures.{key_cell}
use Rattle.sketch.specs.Audit.{first_unsound, audit_of}
use Rattle.sketch.specs.Refusals.{bad_key, bad_fraction, other_shape, other_frame, other_sub_window, bad_cells, key_fits, judged_cells}
use Rattle.sketch.specs.Refusals.{update_call, update_at_call, advance_call, read_call, read_with_call, mean_call, highest_call, audit_call, merge_call}
use Rattle.sketch.specs.Causes.{sketch_causes}
use Rattle.sketch.specs.Acceptance.{sound_at, Stays}
use Rattle.sketch.specs.Named.{GridCell, KeyCell, NoCell, MovingCell, within, crossing, SmallestUnsound, AllSound, SmallestOfTwo, receiving, other}
use Rattle.sketch.specs.Named.{Judges, Printout, SketchNames, OneNamed, GridOrder}
use Rattle.sketch.proofs.AddressLaws.{key_rows, key_column}
use Rattle.sketch.proofs.AuditLaws.{search_is}
use Rattle.sketch.proofs.CauseTheorems.{sketch_calls}

apart : (j : ℕ) → finding.Sound ≡ finding.Unsound j → ⊥
apart j e = let z : ◌≡◌ {A = ℕ} 0 1 = cc in omega arith

module _ (k : MicroCm) (g : List ℕ) where
  abbrev pub some_bad : List ℕ → Bool
  some_bad cells = first_unsound (λ j. true) false k g cells

  abbrev pub first_bad : List ℕ → ℕ
  first_bad cells = first_unsound (λ j. j) 0 k g cells

  -- THE FIRST UNSOUND of some cells stands at a place before which each is sound
  record FirstAt (cells : List ℕ) : Type 0 where
    place : ℕ
    inside : place < length cells
    is : first_bad cells ≡ get_or cells place 0
    bad : sound_at k g (get_or cells place 0) ≡ false
    before : (i : ℕ) → i < place → sound_at k g (get_or cells i 0) ≡ true

  first_at : (cells : List ℕ) → some_bad cells ≡ true → FirstAt cells
  unfolding first_unsound
  first_at [] e = absurd (true≢false (sym e))
  first_at (j ∷ js) e = by (sound_at k g j) refl (first_at js) e
    where
      earlier : sound_at k g j ≡ true → (it : FirstAt js) (i : ℕ) → i < suc it.place → sound_at k g (get_or (j ∷ js) i 0) ≡ true
      earlier s it zero l = s
      earlier s it (suc i) l = it.before i (omega arith)

      by : (x : Bool) → sound_at k g j ≡ x → (some_bad js ≡ true → FirstAt js) → cond x (some_bad js) true ≡ true → FirstAt (j ∷ js)
      by true s later e =
          let it = later e in
          record { place = suc it.place; inside = omega (arith, it.inside); is = rw s it.is; bad = it.bad; before = earlier s it }
      by false s later e = record { place = 0; inside = omega arith; is = rw s refl; bad = s; before = λ i l. absurd (omega arith) }

  -- where there is none, each is sound
  none_bad : (cells : List ℕ) → some_bad cells ≡ false → (i : ℕ) → i < length cells → sound_at k g (get_or cells i 0) ≡ true
  unfolding first_unsound
  none_bad [] e i l = absurd (omega arith)
  none_bad (j ∷ js) e i l = by (sound_at k g j) refl e (none_bad js) i l
    where
      by : (x : Bool) → sound_at k g j ≡ x → cond x (some_bad js) true ≡ false
          → (some_bad js ≡ false → (i : ℕ) → i < length js → sound_at k g (get_or js i 0) ≡ true)
          → (i : ℕ) → i < suc (length js) → sound_at k g (get_or (j ∷ js) i 0) ≡ true
      by true s e later zero l = s
      by true s e later (suc i) l = later e i (omega arith)
      by false s e later i l = absurd (true≢false e)

-- THE PLACES of the cells judged: each has one, and they rise
record Places (Judged : ℕ → Type 0) (cells : List ℕ) : Type 0 where
  each : (i : ℕ) → i < length cells → Judged (get_or cells i 0)
  place : (j : ℕ) → Judged j → (i : ℕ) × (i < length cells) × (j ≡ get_or cells i 0)
  rises : (a b : ℕ) → a ≤ b → b < length cells → get_or cells a 0 ≤ get_or cells b 0

smallest_of : (Judged : ℕ → Type 0) (k : MicroCm) (g cells : List ℕ) → Places Judged cells → some_bad k g cells ≡ true
    → SmallestUnsound Judged k g (first_bad k g cells)
smallest_of Judged k g cells p e = rw it.is (record { judged = p.each it.place it.inside; unsound = it.bad; smallest = least })
  where
    it : FirstAt k g cells
    it = first_at k g cells e

    least : (i : ℕ) → Judged i → sound_at k g i ≡ false → get_or cells it.place 0 ≤ i
    least i w bad = by (ltb (p.place i w).0 it.place) refl
      where
        by : (x : Bool) → ltb (p.place i w).0 it.place ≡ x → get_or cells it.place 0 ≤ i
        by true q =
            let at = p.place i w in
            absurd (true≢false (sym (it.before at.0 (ltb-true _ _ q)) ∙ rw (← at.2) bad))
        by false q =
            let at = p.place i w in
            rw at.2 (p.rises it.place at.0 (ltb-false _ _ q) at.1)

-- WHAT A SEARCH among them says: the smallest unsound one, or that each is sound
pub record Searched (Judged : ℕ → Type 0) (k : MicroCm) (g cells : List ℕ) : Type 0 where
  pub found : some_bad k g cells ≡ true → SmallestUnsound Judged k g (first_bad k g cells)
  pub clear : some_bad k g cells ≡ false → (i : ℕ) → Judged i → sound_at k g i ≡ true

searched_of : (Judged : ℕ → Type 0) (k : MicroCm) (g cells : List ℕ) → Places Judged cells → Searched Judged k g cells
searched_of Judged k g cells p =
    record {
      found = smallest_of Judged k g cells p;
      clear = λ e i w.
          let at = p.place i w in
          rw at.2 (none_bad k g cells e at.0 at.1);
    }

-- NONE
no_places : Places NoCell []
no_places = record { each = λ i l. absurd (omega arith); place = λ j w. absurd w; rises = λ a b h l. absurd (omega arith) }

-- THE WHOLE GRID
count_length : (count first : ℕ) → length (count_from first count) ≡ count
unfolding count_from
count_length zero first = refl
count_length (suc count) first = ap suc (count_length count (suc first))

count_at : (count first i : ℕ) → i < count → get_or (count_from first count) i 0 ≡ first + i
unfolding count_from
count_at zero first i l = absurd (omega arith)
count_at (suc count) first zero l = sym (add-zero first)
count_at (suc count) first (suc i) l = omega (arith, count_at count (suc first) i (omega arith))

grid_places : (k : MicroCm) → Places (GridCell k) (all_cells k)
grid_places k =
    let n = cells_of k in
    let long = count_length n 0 in
    record {
      each = λ i l. omega (arith, count_at n 0 i (omega (arith, long)), long);
      place = λ j h. (j, omega (arith, long), omega (arith, count_at n 0 j h));
      rises = λ a b h l. omega (arith, long, count_at n 0 a (omega (arith, long)), count_at n 0 b (omega (arith, long)));
    }

-- THE KEY'S
key_length : (k : MicroCm) (key : List ℕ) (row : ℕ) → length (key_cells k row key) ≡ length key
unfolding key_cells
key_length k [] row = refl
key_length k (x ∷ xs) row = ap suc (key_length k xs (suc row))

key_at : (k : MicroCm) (key : List ℕ) (row i : ℕ) → i < length key → get_or (key_cells k row key) i 0 ≡ cell_index k (row + i) (get_or key i 0)
unfolding key_cells
key_at k [] row i l = absurd (omega arith)
key_at k (x ∷ xs) row zero l = rw (add-zero row) refl
key_at k (x ∷ xs) row (suc i) l =
    let e : row + suc i ≡ suc row + i = omega arith in
    rw e (key_at k xs (suc row) i (omega arith))

by_row : (k : MicroCm) (row row' col col' : ℕ) → col < k.cols → row < row' → cell_index k row col < cell_index k row' col'
by_row k row row' col col' h l =
    let m : suc row * k.cols ≤ row' * k.cols = mul-le-mul_right k.cols l in
    omega (arith, suc-mul row k.cols)

module _ (k : MicroCm) (key : List ℕ) (fits : key_fits k key ≡ true) where
  rows_are : length (key_cells k 0 key) ≡ k.rows
  rows_are = key_length k key 0 ∙ key_rows k key fits

  at_row : (row : ℕ) → row < k.rows → get_or (key_cells k 0 key) row 0 ≡ key_cell k key row
  at_row row h = rw zero-add at (key_at k key 0 row (omega (arith, key_rows k key fits)))

  key_places : Places (KeyCell k key) (key_cells k 0 key)
  key_places =
      record {
        each = λ i l. let h : i < k.rows = omega (arith, rows_are) in record { row = i; inside = h; is = at_row i h };
        place = λ j w. (w.row, omega (arith, rows_are, w.inside), w.is ∙ sym (at_row w.row w.inside));
        rises = λ a b h l. rise a b h (omega (arith, rows_are)) (eqb a b) refl;
      }
    where
      rise : (a b : ℕ) → a ≤ b → b < k.rows → (x : Bool) → eqb a b ≡ x → get_or (key_cells k 0 key) a 0 ≤ get_or (key_cells k 0 key) b 0
      rise a b h l true q = rw (eqb-true a b q) (le_refl (get_or (key_cells k 0 key) b 0))
      rise a b h l false q =
          let less : a < b = omega (arith, eqb-false a b q) in
          let inside : a < k.rows = omega arith in
          let up = by_row k a b (get_or key a 0) (get_or key b 0) (key_column k key fits a inside) less in
          omega (arith, up, at_row a inside, at_row b l)

-- THESE, or the whole grid if the call crosses
module _ (k : MicroCm) (clock : SubWindowClock) (Within : ℕ → Type 0) where
  stayed : Stays k clock → (j : ℕ) → MovingCell k clock Within j → Within j
  stayed stays j (within s w) = w
  stayed stays j (crossing n h) = absurd (n stays)

  crossed : (Stays k clock → ⊥) → (j : ℕ) → MovingCell k clock Within j → GridCell k j
  crossed moves j (within s w) = absurd (moves s)
  crossed moves j (crossing n h) = h

  moving_places : (cells : List ℕ) → Places Within cells → Places (MovingCell k clock Within) (judged_cells k clock cells)
  moving_places cells p = by (eqb (n_of clock) (n_of k.clock)) refl
    where
      by : (x : Bool) → eqb (n_of clock) (n_of k.clock) ≡ x → Places (MovingCell k clock Within) (cond x cells (all_cells k))
      by true q =
          let stays : Stays k clock = eqb-true _ _ q in
          record { each = λ i l. within stays (p.each i l); place = λ j w. p.place j (stayed stays j w); rises = p.rises }
      by false q =
          let moves : Stays k clock → ⊥ = eqb-false _ _ q in
          let all = grid_places k in
          record { each = λ i l. crossing moves (all.each i l); place = λ j w. all.place j (crossed moves j w); rises = all.rises }

-- ONE INDEX ALONE
one : (Judged : ℕ → Type 0) (k : MicroCm) (g : List ℕ) (i j : ℕ) → SmallestUnsound Judged k g i → SmallestUnsound Judged k g j → i ≡ j
one Judged k g i j w w' = omega (arith, w.smallest j w'.judged w'.unsound, w'.smallest i w.judged w.unsound)

never_both : (k : MicroCm) (g : List ℕ) (j : ℕ) → SmallestUnsound (GridCell k) k g j → AllSound k g → ⊥
never_both k g j w all = true≢false (sym (all j w.judged) ∙ w.unsound)

one_of_two : (k : MicroCm) (g : List ℕ) (k' : MicroCm) (g' : List ℕ) (i j : ℕ) → SmallestOfTwo k g k' g' i → SmallestOfTwo k g k' g' j → i ≡ j
one_of_two k g k' g' i j (receiving w) (receiving w') = one (GridCell k) k g i j w w'
one_of_two k g k' g' i j (receiving w) (other all w') = absurd (never_both k g i w all)
one_of_two k g k' g' i j (other all w) (receiving w') = absurd (never_both k g j w' all)
one_of_two k g k' g' i j (other all w) (other all' w') = one (GridCell k') k' g' i j w w'

-- A CALL that judges these cells behind causes that are not 14
module _ (Judged : ℕ → Type 0) (k : MicroCm) (g cells : List ℕ) (xs ys : List Cause) (before : none_is 14 xs ≡ true) (behind : none_is 14 ys ≡ true)
    (searched : first_of xs ≡ Accepted → Searched Judged k g cells) (v : Verdict) (is : v ≡ first_of (xs ++ bad_cells k g cells ∷ ys)) where
  pub cells_name : Names v (SmallestUnsound Judged k g)
  cells_name e =
      let it = unsound_told xs (first_bad k g cells) (some_bad k g cells) ys before behind (sym (ap number_of is) ∙ e) in
      rw (ap index_of is ∙ it.2) ((searched it.0).found it.1)

  pub cells_clear : v ≡ Accepted → (i : ℕ) → Judged i → sound_at k g i ≡ true
  cells_clear e =
      let it = unsound_denied xs (first_bad k g cells) (some_bad k g cells) ys (sym is ∙ e) in
      (searched it.0).clear it.1

pub cells_judge : (Judged : ℕ → Type 0) (k : MicroCm) (g cells : List ℕ) (xs ys : List Cause) → none_is 14 xs ≡ true → none_is 14 ys ≡ true
    → (first_of xs ≡ Accepted → Searched Judged k g cells) → (v : Verdict) (ns : List ℕ) → Told v ns (xs ++ bad_cells k g cells ∷ ys)
    → Judges Judged k g (xs ++ bad_cells k g cells ∷ ys) v
cells_judge Judged k g cells xs ys before behind searched v ns t =
    record {
      clear = cells_clear Judged k g cells xs ys before behind searched v t.is;
      keeps = kept;
      same = λ v' kept'. two_cores.same causes (SmallestUnsound Judged k g) (rw t.numbered t.ordered) (one Judged k g) v v' kept kept';
    }
  where
    causes : List Cause
    causes = xs ++ bad_cells k g cells ∷ ys

    kept : Keeps causes (SmallestUnsound Judged k g) v
    kept = record { lowest = lowest_told v ns causes t; names = cells_name Judged k g cells xs ys before behind searched v t.is }

-- a key that 7 let pass
key_passed : (k : MicroCm) (key g : List ℕ) (rest : List Cause) → first_of (sketch_causes k g ++ bad_key k key ∷ rest) ≡ Accepted → key_fits k key ≡ true
unfolding applies
key_passed k key g rest e = not-false _ (by (not (key_fits k key)) (applies 7 rest) (none_applies (sketch_causes k g ++ bad_key k key ∷ rest) e 7))
  where
    by : (a b : Bool) → a || b ≡ false → a ≡ false
    by true b e = absurd (true≢false e)
    by false b e = refl

-- so the key's cells are searched, alone or as a move to this clock judges them
module _ (k : MicroCm) (key g : List ℕ) (rest : List Cause) (past : first_of (sketch_causes k g ++ bad_key k key ∷ rest) ≡ Accepted) where
  key_searched : Searched (KeyCell k key) k g (key_cells k 0 key)
  key_searched = searched_of (KeyCell k key) k g (key_cells k 0 key) (key_places k key (key_passed k key g rest past))

  item_searched : (clock : SubWindowClock) → Searched (MovingCell k clock (KeyCell k key)) k g (judged_cells k clock (key_cells k 0 key))
  item_searched clock =
      searched_of (MovingCell k clock (KeyCell k key)) k g (judged_cells k clock (key_cells k 0 key))
      (moving_places k clock (KeyCell k key) (key_cells k 0 key) (key_places k key (key_passed k key g rest past)))

-- A WHOLE GRID
module _ (k : MicroCm) (g : List ℕ) where
  pub grid_searched : Searched (GridCell k) k g (all_cells k)
  grid_searched = searched_of (GridCell k) k g (all_cells k) (grid_places k)

  audit_prints : Printout k g (audit_of k g)
  audit_prints = rw (search_is finding.Unsound finding.Sound k g (all_cells k)) (by (some_bad k g (all_cells k)) refl)
    where
      by : (x : Bool) → some_bad k g (all_cells k) ≡ x → Printout k g (cond x (finding.Unsound (first_bad k g (all_cells k))) finding.Sound)
      by true q =
          record {
            clear = λ e. absurd (apart _ (sym e));
            named = λ j e. let same : first_bad k g (all_cells k) ≡ j = cc in rw (← same) (grid_searched.found q);
          }
      by false q = record { clear = λ e. grid_searched.clear q; named = λ j e. absurd (apart j e) }

-- A MERGE
module _ (k : MicroCm) (g : List ℕ) (k' : MicroCm) (g' : List ℕ) where
  abbrev both : List Cause
  both = bad_cells k g (all_cells k) ∷ bad_cells k' g' (all_cells k') ∷ []

  of_two : number_of (first_of both) ≡ 14 → SmallestOfTwo k g k' g' (index_of (first_of both))
  unfolding first_of
  of_two = by (some_bad k g (all_cells k)) refl (some_bad k' g' (all_cells k')) refl
    where
      by : (a : Bool) → some_bad k g (all_cells k) ≡ a → (b : Bool) → some_bad k' g' (all_cells k') ≡ b
          → number_of (first_of (unsound (first_bad k g (all_cells k)) a ∷ unsound (first_bad k' g' (all_cells k')) b ∷ [])) ≡ 14
          → SmallestOfTwo k g k' g' (index_of (first_of (unsound (first_bad k g (all_cells k)) a ∷ unsound (first_bad k' g' (all_cells k')) b ∷ [])))
      by true q b q' e = receiving ((grid_searched k g).found q)
      by false q true q' e = other ((grid_searched k g).clear q) ((grid_searched k' g').found q')
      by false q false q' e = absurd (omega (arith, e))

  merge_keeps : (xs : List Cause) → none_is 14 xs ≡ true → (v : Verdict) (ns : List ℕ) → Told v ns (xs ++ both) → Keeps (xs ++ both) (SmallestOfTwo k g k' g') v
  merge_keeps xs before v ns t =
      record {
        lowest = lowest_told v ns (xs ++ both) t;
        names = λ e.
            let told = sym (ap number_of t.is) ∙ e in
            let past = told_behind 14 xs both before told in
            rw (ap index_of (t.is ∙ past.1)) (of_two (sym (ap number_of past.1) ∙ told));
      }

  merge_alike : (xs : List Cause) → none_is 14 xs ≡ true → (v : Verdict) (ns : List ℕ) → Told v ns (xs ++ both) → (v' : Verdict)
      → Keeps (xs ++ both) (SmallestOfTwo k g k' g') v' → SameAnswer v v'
  merge_alike xs before v ns t v' kept =
      two_cores.same (xs ++ both) (SmallestOfTwo k g k' g') (rw t.numbered t.ordered) (one_of_two k g k' g') v v' (merge_keeps xs before v ns t) kept

  merge_clears : (xs : List Cause) (v : Verdict) → v ≡ first_of (xs ++ both) → v ≡ Accepted → AllSound k g × AllSound k' g'
  merge_clears xs v is e =
      let mine = unsound_denied xs (first_bad k g (all_cells k)) (some_bad k g (all_cells k)) (bad_cells k' g' (all_cells k') ∷ []) (sym is ∙ e) in
      let behind = sym (first_fails (bad_cells k g (all_cells k)) (bad_cells k' g' (all_cells k') ∷ []) mine.1) ∙ both_behind in
      ((grid_searched k g).clear mine.1, (grid_searched k' g').clear (unsound_denied [] _ _ [] behind).1)
    where
      both_behind : first_of both ≡ Accepted
      both_behind = (both_accepted (first_of xs) (first_of both) (sym (first_append xs both) ∙ sym is ∙ e)).1

-- EVERY CALL
pub sketch_names : SketchNames
unfolding none_is paired update_call update_at_call advance_call read_call read_with_call mean_call highest_call audit_call merge_call
sketch_names = record {
  update = λ k key g.
      let clock = tick_of k.clock in
      cells_judge (MovingCell k clock (KeyCell k key)) k g (judged_cells k clock (key_cells k 0 key))
      (sketch_causes k g ++ bad_key k key ∷ is_timed k.clock ∷ []) [] refl refl
      (λ past. item_searched k key g _ past clock) _ _ (sketch_calls.update k key g);
  update_at = λ k key reading g.
      let clock = advance_of k.clock reading in
      cells_judge (MovingCell k clock (KeyCell k key)) k g (judged_cells k clock (key_cells k 0 key))
      (sketch_causes k g ++ bad_key k key ∷ is_counted k.clock ∷ []) [] refl refl
      (λ past. item_searched k key g _ past clock) _ _ (sketch_calls.update_at k key reading g);
  advance = λ k reading g.
      let clock = advance_of k.clock reading in
      cells_judge (MovingCell k clock NoCell) k g (judged_cells k clock []) (sketch_causes k g ++ is_counted k.clock ∷ []) [] refl refl
      (λ past. searched_of _ k g _ (moving_places k clock NoCell [] no_places)) _ _ (sketch_calls.advance k reading g);
  read = λ k key g.
      cells_judge (KeyCell k key) k g (key_cells k 0 key) (sketch_causes k g ++ bad_key k key ∷ []) [] refl refl
      (λ past. key_searched k key g _ past) _ _ (sketch_calls.read k key g);
  read_with = λ k key fraction g.
      cells_judge (KeyCell k key) k g (key_cells k 0 key) (sketch_causes k g ++ bad_key k key ∷ bad_fraction k fraction ∷ []) [] refl refl
      (λ past. key_searched k key g _ past) _ _ (sketch_calls.read_with k key fraction g);
  mean = λ k key g.
      cells_judge (KeyCell k key) k g (key_cells k 0 key) (sketch_causes k g ++ bad_key k key ∷ []) [] refl refl
      (λ past. key_searched k key g _ past) _ _ (sketch_calls.read k key g);
  highest = λ k g.
      cells_judge (GridCell k) k g (all_cells k) (sketch_causes k g) [] refl refl (λ past. grid_searched k g) _ _ (sketch_calls.highest k g);
  merge = λ k g k' g'. merge_keeps k g k' g' (asked k g k' g') refl _ _ (sketch_calls.merge k g k' g');
  merge_same = λ k g k' g' v kept. merge_alike k g k' g' (asked k g k' g') refl _ _ (sketch_calls.merge k g k' g') v kept;
  merge_clear = λ k g k' g' e. merge_clears k g k' g' (asked k g k' g') _ (sketch_calls.merge k g k' g').is e;
  audit = λ k g e. rw e (audit_prints k g);
}
  where
    asked : MicroCm → List ℕ → MicroCm → List ℕ → List Cause
    asked k g k' g' = paired (sketch_causes k g) (sketch_causes k' g') ++ other_shape k k' ∷ other_frame k k' ∷ other_sub_window k k' ∷ []

-- TWO PRINTOUTS of one grid
same_printout : (k : MicroCm) (g : List ℕ) (f f' : Finding) → Printout k g f → Printout k g f' → f ≡ f'
same_printout k g finding.Sound finding.Sound p p' = refl
same_printout k g finding.Sound (finding.Unsound j) p p' = absurd (never_both k g j (p'.named j refl) (p.clear refl))
same_printout k g (finding.Unsound i) finding.Sound p p' = absurd (never_both k g i (p.named i refl) (p'.clear refl))
same_printout k g (finding.Unsound i) (finding.Unsound j) p p' = ap finding.Unsound (one (GridCell k) k g i j (p.named i refl) (p'.named j refl))

pub one_named : OneNamed
one_named = record { one = one; one_of_two = one_of_two; same_printout = same_printout }

pub grid_order : GridOrder
grid_order = record { by_row = by_row; by_column = λ k row col col' h. omega arith }
