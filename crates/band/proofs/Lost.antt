-- WHAT LISTS OF CALLS LOSE: a call tells what its stages lose, a stage what each cell loses; and a cell that is below max_zoom before a stage loses nothing in it.
use Prim.Native.Nat.{ℕ, ◌+◌, ◌-◌, ◌*◌, ◌≤◌, ◌<◌}
use mathlib.Core.Path.{◌≡◌, refl, sym, ap, ◌∙◌}
use mathlib.Core.Bool.{Bool, true, false, cond}
use mathlib.Core.List.{List, [], ◌∷◌}
use lib.Arith.{digits_lt}
use lib.ListN.{length, get_or}
use native.Mathlib.Omega.{arith}
use native.Mathlib.Nat.{add-zero, zero-add, le_trans}
use Rattle.laws.specs.Sums.{total}
use Rattle.laws.proofs.ChoiceLaws.{either}
use Rattle.laws.proofs.SumLaws.{total_same, total_none, total_add, total_pick, total_grid}
use Rattle.refusal.specs.Refusals.{when_accepted}
use Rattle.refusal.proofs.VerdictLaws.{accepted_is, refused_leaves}
use Rattle.cell.specs.Cell.{zoom_of, max_zoom}
use Rattle.cell.specs.Lost.{loses_item, loses_closing, one_if}
use Rattle.cell.proofs.LostLaws.{cross_lost, empty_item}
use Rattle.cell.proofs.CrossingLaws.{cross_lost_below}
use Rattle.clock.specs.Clock.{n_of}
use Rattle.sketch.specs.declared.MicroCm.{MicroCm}
use Rattle.sketch.specs.Sketch.{cells_of, cell_index, cell_of, World, begins, state_at}
use Rattle.sketch.specs.Refusals.{world}
use Rattle.sketch.proofs.AddressLaws.{key_rows, key_column}
use Rattle.sketch.proofs.SettingsLaws.{good_settings}
use Rattle.sketch.proofs.WorldLaws.{good_room}
use Rattle.sketch.proofs.WorldLoss.{Set, cell_fit, moved_lost, recorded_lost}
use Rattle.band.specs.Calls.{Call, Settings, fresh, outcome, next}
use Rattle.band.specs.Stages.{Stage, recording, moving, stages_of, done, through}
use Rattle.band.specs.Tally.{Tally, hits, accepts, empty, marked, tallied}
use Rattle.band.specs.Peak.{zoom_now, zoom_through, peak}
use Rattle.band.specs.Band.{AcceptedSettings}
use Rattle.band.specs.Lost.{lost_inside, lost_through, lost_in, lost_told, over_grid, ListsLose}
use Rattle.band.proofs.TallyLaws.{hits_is}
use Rattle.band.proofs.Runs.{verdict_of, called, settled, outcome_is, next_accepted}
use Rattle.band.proofs.Reached.{Right, AllRight, Reached, Coming, fits, fresh_reached, coming_on, call_coming}
use Rattle.band.proofs.RefusalLaws.{verdict_accepts}
use Rattle.band.proofs.Steps.{next_reached}
use Rattle.band.proofs.CellKept.{rises, now_peak, next_peak, crossing_peak}

-- a list's calls, the next from the world that the last one left
module _ (S : Settings) (ok : AcceptedSettings S) where
  some_rows : 1 ≤ S.rows
  some_rows = (good_settings S.rows S.cols S.params S.clock ok).grid.rows_low

  some_cols : 2 ≤ S.cols
  some_cols = (good_settings S.rows S.cols S.params S.clock ok).grid.cols_low

  module _ (T : Tally) (w : World) (h : Reached S T w) where
    abbrev k : MicroCm
    k = w.sketch

    rows_are : k.rows ≡ S.rows
    rows_are = rw h.settings refl

    cols_are : k.cols ≡ S.cols
    cols_are = rw h.settings refl

    set : Set w
    set = record {
      fit = fits S ok T w h;
      room = good_room k w.grid k.rounding.state h.good;
      rows_low = rw rows_are some_rows;
      cols_low = rw cols_are some_cols;
    }

    -- A STAGE loses what its cells lose
    each_cell : (f : ℕ → ℕ) → total (cells_of k - 1) f ≡ over_grid S (λ row col. f (cell_index k row col))
    each_cell f = rw (rows_are, cols_are) (total_grid S.rows S.cols f some_rows (omega (arith, some_cols)))

    stage_lost : (stage : Stage) → Right w stage → (done stage w).lost ≡ w.lost + over_grid S (lost_inside w stage)
    unfolding lost_inside
    stage_lost (recording key) right =
        let n = n_of k.clock in
        let loses : ℕ → ℕ → ℕ = λ row col. one_if (loses_item k.params.t k.params.c n (cell_of k w.grid (cell_index k row col))) in
        let row-lost : (row : ℕ) → row ≤ S.rows - 1
        → loses row (get_or key row 0) ≡ total (S.cols - 1) (λ col. cond (hits key row col) (loses row col) 0) =
        λ row l.
        let in_rows : row < k.rows = omega (arith, rows_are, some_rows) in
        let in-key : row < length key = rw (key_rows k key right) in_rows in
        let low : get_or key row 0 ≤ S.cols - 1 = omega (arith, key_column k key right row in_rows, cols_are) in
        sym (total_same (S.cols - 1) _ _ (λ col q. rw (hits_is key row col in-key) refl) ∙ total_pick (S.cols - 1) (get_or key row 0) (loses row) low) in
        recorded_lost w set key right ∙ ap (λ (m : ℕ). w.lost + m) (rw rows_are (total_same (S.rows - 1) _ _ row-lost))
    stage_lost (moving clock) right =
        moved_lost w set clock ∙ ap (λ (m : ℕ). w.lost + m)
        (each_cell (λ j. one_if (loses_closing k.params.t k.params.c (n_of clock) (begins w clock) (cell_of k w.grid j) (state_at w clock j))))

  grid_add : (f g : ℕ → ℕ → ℕ) → over_grid S (λ row col. f row col + g row col) ≡ over_grid S f + over_grid S g
  grid_add f g =
      total_same (S.rows - 1) _ _ (λ row l. total_add (S.cols - 1) (f row) (g row))
      ∙ total_add (S.rows - 1) (λ row. total (S.cols - 1) (f row)) (λ row. total (S.cols - 1) (g row))

  grid_same : (f g : ℕ → ℕ → ℕ) → ((row col : ℕ) → f row col ≡ g row col) → over_grid S f ≡ over_grid S g
  grid_same f g same = total_same (S.rows - 1) _ _ (λ row l. total_same (S.cols - 1) (f row) (g row) (λ col q. same row col))

  grid_none : (f : ℕ → ℕ → ℕ) → ((row col : ℕ) → row < S.rows → col < S.cols → f row col ≡ 0) → over_grid S f ≡ 0
  grid_none f none =
      total_none (S.rows - 1) _ (λ row l. total_none (S.cols - 1) _ (λ col q. none row col (omega (arith, some_rows)) (omega (arith, some_cols))))

  through_lost : (stages : List Stage) (T : Tally) (w : World) → Coming S stages T w
      → (through stages w).lost ≡ w.lost + over_grid S (lost_through w stages)
  unfolding through lost_through AllRight
  through_lost [] T w h = sym (rw (grid_none (λ row col. 0) (λ row col l q. refl)) (add-zero w.lost))
  through_lost (stage ∷ stages) T w h =
      through_lost stages (marked T stage) (done stage w) (coming_on S ok stage stages T w h)
      ∙ omega (arith, stage_lost T w h.reached stage h.right.0, grid_add (lost_inside w stage) (lost_through (done stage w) stages))

  -- A CALL tells what its stages lose
  module _ (T : Tally) (k : MicroCm) (g : List ℕ) (h : Reached S T (world k g)) (call : Call) where
    abbrev w : World
    w = world k g

    abbrev stages : List Stage
    stages = stages_of k.clock call

    abbrev lost : ℕ → ℕ → ℕ
    lost row col = when_accepted (verdict_of w call) (lost_through w stages row col) 0

    call_lost : (outcome w call).answer.lost ≡ over_grid S lost
    call_lost = by (accepts S call) refl
      where
        by : (a : Bool) → accepts S call ≡ a → (outcome w call).answer.lost ≡ over_grid S lost
        by true e =
            let v = accepted_is (verdict_of w call) (verdict_accepts S ok T w h call ∙ e) in
            let is : (outcome w call).answer.lost ≡ (called call w).lost = ap (λ o. o.answer.lost) (outcome_is k g call) ∙ rw v refl in
            is ∙ through_lost stages T w (call_coming S ok T w h call e) ∙ zero-add (over_grid S (lost_through w stages))
            ∙ grid_same (lost_through w stages) lost (λ row col. rw v refl)
        by false e =
            let out = verdict_accepts S ok T w h call ∙ e in
            let is : (outcome w call).answer.lost ≡ 0 =
            ap (λ o. o.answer.lost) (outcome_is k g call) ∙ ap (λ (x : World). x.lost) (refused_leaves (verdict_of w call) (called call w) w out) in
            is ∙ sym (grid_none lost (λ row col l q. refused_leaves (verdict_of w call) (lost_through w stages row col) 0 out))

  -- THE LIST
  list_lost : (calls : List Call) (T : Tally) (k : MicroCm) (g : List ℕ) → Reached S T (world k g)
      → lost_told (world k g) calls ≡ over_grid S (lost_in (world k g) calls)
  unfolding lost_told lost_in
  list_lost [] T k g h = sym (grid_none (λ row col. 0) (λ row col l q. refl))
  list_lost (call ∷ calls) T k g h =
      let after = next (world k g) call in
      rw (call_lost T k g h call, list_lost calls (tallied S T call) after.sketch after.grid (next_reached S ok T k g h call))
      (sym (grid_add (lost T k g h call) (lost_in after calls)))

  -- A CELL that never held max_zoom
  module _ (row col : ℕ) (hr : row < S.rows) (hl : col < S.cols) where
    abbrev j : ℕ
    j = row * S.cols + col

    abbrev top : ℕ
    top = max_zoom S.params.c

    -- loses nothing in a stage before which it is below it
    stage_none : (T : Tally) (w : World) → Reached S T w → (stage : Stage) → zoom_now w j < top → lost_inside w stage row col ≡ 0
    unfolding zoom_now lost_inside
    stage_none T w h stage low = by stage
      where
        k : MicroCm
        k = w.sketch

        there : cell_index k row col < cells_of k
        there = digits_lt (rw h.settings hr) (rw h.settings hl)

        below : zoom_of k.params.t (cell_of k w.grid (cell_index k row col)) < max_zoom k.params.c
        below = rw h.settings (rw h.settings at low)

        b : List ℕ
        b = cell_of k w.grid (cell_index k row col)

        by : (stage : Stage) → lost_inside w stage row col ≡ 0
        by (recording key) =
            either (λ (n : ℕ). n ≡ 0) (hits key row col) _ 0
            (λ e. empty_item k.params.t k.params.c b 0 (cell_fit w (set T w h) (cell_index k row col) there) (n_of k.clock) (λ q. absurd (omega (arith, below))))
            (λ e. refl)
        by (moving clock) =
            let τ = state_at w clock (cell_index k row col) in
            let fit = cell_fit w (set T w h) (cell_index k row col) there in
            sym (cross_lost k.params.t k.params.c (n_of clock) (begins w clock) b τ fit)
            ∙ cross_lost_below k.params.t k.params.c (n_of clock) (begins w clock) b τ fit below

    module _ (M : ℕ) (low : M < top) where
      through_none : (stages : List Stage) (T : Tally) (w : World) → Coming S stages T w → zoom_through w stages j ≤ M → zoom_now (through stages w) j ≤ M
          → lost_through w stages row col ≡ 0
      unfolding lost_through zoom_through through AllRight
      through_none [] T w h inside after = refl
      through_none (stage ∷ stages) T w h inside after =
          let to = coming_on S ok stage stages T w h in
          let now : zoom_now w j < top = omega (arith, rises S ok M row col low hr hl (stage ∷ stages) T w h) in
          omega (arith, stage_none T w h.reached stage now, through_none stages (marked T stage) (done stage w) to (omega arith) after)

      call_none : (T : Tally) (k : MicroCm) (g : List ℕ) → Reached S T (world k g) → (call : Call) (calls : List Call) → peak (world k g) (call ∷ calls) j ≤ M
          → when_accepted (verdict_of (world k g) call) (lost_through (world k g) (stages_of k.clock call) row col) 0 ≡ 0
      unfolding zoom_now
      call_none T k g h call calls most = by (accepts S call) refl
        where
          w : World
          w = world k g

          by : (a : Bool) → accepts S call ≡ a → when_accepted (verdict_of w call) (lost_through w (stages_of k.clock call) row col) 0 ≡ 0
          by true e =
              let v = accepted_is (verdict_of w call) (verdict_accepts S ok T w h call ∙ e) in
              let inside = le_trans (crossing_peak w call calls j v) most in
              let later : peak (next w call) calls j ≤ M = le_trans (next_peak w call calls j) most in
              let below = rw (next_accepted k g call v) at later in
              let after = le_trans (now_peak (settled (called call w)) calls j) below in
              rw v (through_none (stages_of k.clock call) T w (call_coming S ok T w h call e) inside after)
          by false e = refused_leaves (verdict_of w call) (lost_through w (stages_of k.clock call) row col) 0 (verdict_accepts S ok T w h call ∙ e)

      list_none : (calls : List Call) (T : Tally) (k : MicroCm) (g : List ℕ) → Reached S T (world k g) → peak (world k g) calls j ≤ M
          → lost_in (world k g) calls row col ≡ 0
      unfolding lost_in
      list_none [] T k g h most = refl
      list_none (call ∷ calls) T k g h most =
          let w = world k g in
          let after = next w call in
          let later : peak after calls j ≤ M = le_trans (next_peak w call calls j) most in
          omega (arith, call_none T k g h call calls most, list_none calls (tallied S T call) after.sketch after.grid (next_reached S ok T k g h call) later)

-- THE THEOREM
fresh_told : (S : Settings) → AcceptedSettings S → (seed : ℕ) (calls : List Call) → lost_told (fresh S seed) calls ≡ over_grid S (lost_in (fresh S seed) calls)
fresh_told S ok seed calls = let w = fresh S seed in list_lost S ok calls (empty S) w.sketch w.grid (fresh_reached S ok seed)

fresh_none : (S : Settings) → AcceptedSettings S → (seed : ℕ) (calls : List Call) (row col : ℕ) → row < S.rows → col < S.cols
    → peak (fresh S seed) calls (row * S.cols + col) < max_zoom S.params.c → lost_in (fresh S seed) calls row col ≡ 0
fresh_none S ok seed calls row col hr hl low =
    let w = fresh S seed in
    list_none S ok row col hr hl (peak w calls (row * S.cols + col)) low calls (empty S) w.sketch w.grid (fresh_reached S ok seed) (omega arith)

pub lists_lose : ListsLose
lists_lose = record {
  told = fresh_told;
  cell = fresh_none;
  key = λ S ok seed calls key right never row h. fresh_none S ok seed calls row (get_or key row 0) h (right.each_low row h) (never row h);
  none = λ S ok seed calls never.
      fresh_told S ok seed calls ∙ grid_none S ok _ (λ row col hr hl. fresh_none S ok seed calls row col hr hl (never row col hr hl));
}
