-- The cells of a code ascend, so its first unsound cell is its smallest; the smallest over all codes is the first unsound one of them all in
-- grid order. Assumes nothing.
use Prim.Native.Nat.{ℕ, zero, suc, ◌+◌, ◌*◌, ◌≤◌, ◌<◌, min}
use mathlib.Core.Path.{◌≡◌, refl, sym, ◌∙◌}
use mathlib.Core.Bool.{Bool, true, false, cond, true≢false}
use mathlib.Core.List.{List, [], ◌∷◌, ◌++◌}
use native.Mathlib.Omega.{arith}
use native.Mathlib.Nat.{suc-mul}
use lib.Dec.{ltb, eqb}
use borrow.Author.Tests.{eq-eqb, eqb-true, lt-ltb, ltb-true, ltb-false}
use Rattle.refusal.specs.declared.Verdict.{Verdict}
use Rattle.refusal.specs.declared.Verdict.TheVariants.{Accepted, Unsound}
use Rattle.refusal.specs.Refusals.{is_accepted, index_of}
use Rattle.cell.specs.Cell.{sound_of}
use Rattle.sketch.specs.declared.MicroCm.{MicroCm}
use Rattle.sketch.specs.Sketch.{cells_of, cell_index, cell_of, key_cells, all_cells}
use Rattle.sketch.specs.Audit.{first_unsound}
use Rattle.sketch.specs.Refusals.{all_below, key_fits, refuse_unsound}
use Rattle.sketch.specs.Workers.{Judged}
use Rattle.sketch.proofs.GridLaws.{below_first, below_rest}
use Rattle.sketch.proofs.KeyLaws.{KeyFrom, key_cells_below}
use Rattle.sketch.proofs.WorldLaws.{fits_key}
use Rattle.codes.specs.Codes.{code_in, code_cells, is_in, those, watched_cells}
use Rattle.codes.proofs.InLaws.{or_where, or_true, in_append}
use Rattle.codes.proofs.CellLaws.{told_where, FirstOfThose, those_judged, those_named}
use Rattle.codes_asking.specs.Workers.{itself, bad_in, least_bad}

module _ (k : MicroCm) (g : List ℕ) where
  abbrev sound_at : ℕ → Bool
  sound_at j = sound_of k.params.t k.params.c (cell_of k g j)

  -- THE VERDICT over some cells, and the cell that it names
  abbrev first_bad : ℕ → List ℕ → ℕ
  first_bad none cells = first_unsound itself none k g cells

  abbrev told : List ℕ → Verdict
  told cells = refuse_unsound k g cells Accepted

  abbrev named_by : ℕ → Verdict → ℕ
  named_by none v = cond (is_accepted v) none (index_of v)

  pub first_named : (none : ℕ) (cells : List ℕ) → first_bad none cells ≡ named_by none (told cells)
  unfolding first_unsound
  first_named none [] = refl
  first_named none (j ∷ js) = by (sound_at j) (first_named none js)
    where
      by : (x : Bool) → first_bad none js ≡ named_by none (told js)
          → cond x (first_bad none js) j ≡ named_by none (cond x (told js) (Unsound j))
      by true e = e
      by false e = refl

  -- THE SMALLEST UNSOUND CELL of a list, or `none` where all below it are sound
  pub record Smallest (none : ℕ) (cells : List ℕ) (m : ℕ) : Type 0 where
    pub most : m ≤ none
    pub inside : m < none → is_in m cells ≡ true
    pub bad : m < none → sound_at m ≡ false
    pub before : (i : ℕ) → is_in i cells ≡ true → i < m → sound_at i ≡ true

  -- of no cells it is `none`
  smallest_of_none : (none : ℕ) → Smallest none [] none
  unfolding is_in
  smallest_of_none none =
      record { most = omega arith; inside = λ h. absurd (omega arith); bad = λ h. absurd (omega arith); before = λ i e h. absurd (true≢false (sym e)) }

  -- of two lists the smaller of both
  smallest_of_two : (none : ℕ) (xs ys : List ℕ) (a b : ℕ) → Smallest none xs a → Smallest none ys b → Smallest none (xs ++ ys) (min a b)
  smallest_of_two none xs ys a b u v = by (ltb a b) refl
    where
      sound_before : (i : ℕ) → is_in i (xs ++ ys) ≡ true → i < a → i < b → sound_at i ≡ true
      sound_before i e la lb = or_where (is_in i xs) (is_in i ys) (sym (in_append i xs ys) ∙ e) (sound_at i ≡ true) (λ h. u.before i h la) (λ h. v.before i h lb)

      by : (x : Bool) → ltb a b ≡ x → Smallest none (xs ++ ys) (min a b)
      by true t =
          let l : a < b = ltb-true a b t in
          let m : min a b ≡ a = omega arith in
          rw m
          (record {
            most = u.most;
            inside = λ h. in_append a xs ys ∙ rw (u.inside h) refl;
            bad = u.bad;
            before = λ i e h. sound_before i e h (omega arith);
          })
      by false t =
          let l : b ≤ a = ltb-false a b t in
          let m : min a b ≡ b = omega arith in
          rw m
          (record {
            most = v.most;
            inside = λ h. in_append b xs ys ∙ rw (v.inside h) (or_true (is_in b xs));
            bad = v.bad;
            before = λ i e h. sound_before i e (omega arith) h;
          })

  -- A CODE'S CELLS ascend
  cells_from : (row : ℕ) (key : List ℕ) (i : ℕ) → is_in i (key_cells k row key) ≡ true → row * k.cols ≤ i
  unfolding key_cells is_in
  cells_from row [] i e = absurd (true≢false (sym e))
  cells_from row (x ∷ xs) i e =
      or_where (eqb (cell_index k row x) i) (is_in i (key_cells k (suc row) xs)) e (row * k.cols ≤ i)
      (λ h. omega (arith, eqb-true (cell_index k row x) i h))
      (λ h. omega (arith, cells_from (suc row) xs i h, suc-mul row k.cols))

  smallest_of_key : (none row : ℕ) (key : List ℕ) → KeyFrom k row key → all_below none (key_cells k row key) ≡ true
      → Smallest none (key_cells k row key) (first_bad none (key_cells k row key))
  unfolding key_cells first_unsound is_in
  smallest_of_key none row [] w low = smallest_of_none none
  smallest_of_key none row (x ∷ xs) w low =
      let later : KeyFrom k (suc row) xs = record { low = below_rest k.cols x xs w.low; few = omega (arith, w.few) } in
      by (sound_at j) refl (smallest_of_key none (suc row) xs later (below_rest none j (key_cells k (suc row) xs) low))
    where
      j : ℕ
      j = cell_index k row x

      rest : List ℕ
      rest = key_cells k (suc row) xs

      by : (b : Bool) → sound_at j ≡ b → Smallest none rest (first_bad none rest) → Smallest none (j ∷ rest) (cond b (first_bad none rest) j)
      by true t later =
          record {
            most = later.most;
            inside = λ h. rw (later.inside h) (or_true (eqb j (first_bad none rest)));
            bad = later.bad;
            before = λ i e h. or_where (eqb j i) (is_in i rest) e (sound_at i ≡ true) (λ same. rw (← eqb-true j i same) t) (λ behind. later.before i behind h);
          }
      by false t later =
          let l : j < none = below_first none j rest low in
          let here : eqb j j ≡ true = eq-eqb j j refl in
          record {
            most = omega arith;
            inside = λ h. rw here refl;
            bad = λ h. t;
            before =
                λ i e h.
                or_where (eqb j i) (is_in i rest) e (sound_at i ≡ true) (λ same. absurd (omega (arith, eqb-true j i same)))
                (λ behind. absurd (omega (arith, cells_from (suc row) xs i behind, suc-mul row k.cols, below_first k.cols x xs w.low)));
          }

  -- IN GRID ORDER the smallest comes first: the verdict names the first, and no other can be both the first and the smallest
  module _ (cells : List ℕ) (m : ℕ) (w : Smallest (cells_of k) cells m) where
    abbrev in_order : List ℕ
    in_order = those cells (all_cells k)

    first_is : (j : ℕ) → FirstOfThose k g cells 0 (0 + cells_of k) j → (x y : Bool) → ltb m j ≡ x → ltb j m ≡ y → m ≡ j
    first_is j f true y p q =
        let l : m < cells_of k = omega (arith, ltb-true m j p, f.high) in
        absurd (true≢false (sym (f.earlier m (omega arith) (ltb-true m j p) (w.inside l)) ∙ w.bad l))
    first_is j f false true p q = absurd (true≢false (sym (w.before j f.listed (ltb-true j m q)) ∙ f.bad))
    first_is j f false false p q = omega (arith, ltb-false m j p, ltb-false j m q)

    pub told_smallest : told in_order ≡ cond (ltb m (cells_of k)) (Unsound m) Accepted
    told_smallest =
        told_where k g in_order (told in_order ≡ cond (ltb m (cells_of k)) (Unsound m) Accepted) (all (ltb m (cells_of k)) refl)
        (λ j e.
        let f = those_named k g cells (cells_of k) 0 j e in
        let same : m ≡ j = first_is j f (ltb m j) (ltb j m) refl refl in
        rw (same, lt-ltb j (cells_of k) (omega (arith, f.high))) e)
      where
        all : (x : Bool) → ltb m (cells_of k) ≡ x → Judged k g in_order → told in_order ≡ cond x (Unsound m) Accepted
        all true t sound =
            let l : m < cells_of k = ltb-true m (cells_of k) t in
            absurd (true≢false (sym (those_judged k g cells (cells_of k) 0 sound m (omega arith) (omega arith) (w.inside l)) ∙ w.bad l))
        all false t sound = sound

  -- ALL THE CODES below n, each of which is a key
  pub codes_smallest : (columns : List ℕ) (n : ℕ) → ((i : ℕ) → i < n → key_fits k (code_in k.rows columns i) ≡ true)
      → Smallest (cells_of k) (code_cells k columns n) (least_bad k columns g n)
  unfolding code_cells least_bad is_in
  codes_smallest columns zero fit = smallest_of_none (cells_of k)
  codes_smallest columns (suc n) fit =
      let key = code_in k.rows columns n in
      let from = fits_key k key (fit n (omega arith)) in
      smallest_of_two (cells_of k) (code_cells k columns n) (key_cells k 0 key) (least_bad k columns g n) (bad_in k columns g n)
      (codes_smallest columns n (λ i h. fit i (omega arith)))
      (smallest_of_key (cells_of k) 0 key from (key_cells_below k 0 key from))

  pub cells_told : (columns : List ℕ) (n : ℕ) → ((i : ℕ) → i < n → key_fits k (code_in k.rows columns i) ≡ true)
      → told (watched_cells k columns n) ≡ cond (ltb (least_bad k columns g n) (cells_of k)) (Unsound (least_bad k columns g n)) Accepted
  cells_told columns n fit = told_smallest (code_cells k columns n) (least_bad k columns g n) (codes_smallest columns n fit)
