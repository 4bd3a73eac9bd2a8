-- One fixed cell over a list of calls, with the peak of the whole list as its bound: each stage keeps what the cell knows of the tally's numbers.
use Prim.Native.Nat.{ℕ, ◌+◌, ◌*◌, ◌≤◌, ◌<◌, max}
use mathlib.Core.Path.{◌≡◌, refl}
use mathlib.Core.Bool.{true}
use mathlib.Core.List.{List, [], ◌∷◌}
use native.Mathlib.Omega.{arith}
use native.Mathlib.Nat.{le_trans}
use Rattle.refusal.specs.declared.Verdict.TheVariants.{Accepted}
use Rattle.refusal.specs.Refusals.{when_accepted}
use Rattle.cell.specs.Cell.{max_zoom}
use Rattle.sketch.specs.declared.MicroCm.{MicroCm}
use Rattle.sketch.specs.Sketch.{cell_index, World}
use Rattle.sketch.specs.Refusals.{world}
use Rattle.band.specs.Calls.{Call, Settings, next, run}
use Rattle.band.specs.Stages.{Stage, stages_of, done, through}
use Rattle.band.specs.Tally.{Tally, accepts, marked, noted, tallied, tally_from}
use Rattle.band.specs.Peak.{zoom_now, zoom_through, zoom_crossing, peak}
use Rattle.band.specs.Band.{AcceptedSettings}
use Rattle.band.proofs.Runs.{verdict_of, called, settled, next_accepted, through_on, run_on}
use Rattle.band.proofs.Reached.{AllRight, Reached, Coming, fits, coming_on, stages_as_tallied, call_coming, called_reached}
use Rattle.band.proofs.StageHistory.{Placed, HoldsAt, stage_holds, stage_rises}
use Rattle.band.proofs.Steps.{step}

-- the cell at a row and a column holds the tally's numbers there, and its peak over the calls to come is at most M
pub record Keeps (S : Settings) (M row col : ℕ) (calls : List Call) (T : Tally) (w : World) : Type 0 where
  pub reached : Reached S T w
  pub holds : HoldsAt M (row * S.cols + col) (T.items row col) w
  pub below : peak w calls (row * S.cols + col) ≤ M

-- the same with stages to come: inside them and after them its zoom is at most M
record KeepsOn (S : Settings) (M row col : ℕ) (stages : List Stage) (T : Tally) (w : World) : Type 0 where
  coming : Coming S stages T w
  holds : HoldsAt M (row * S.cols + col) (T.items row col) w
  inside : zoom_through w stages (row * S.cols + col) ≤ M
  after : zoom_now (through stages w) (row * S.cols + col) ≤ M

-- the peak is over the present and what comes
pub now_peak : (w : World) (calls : List Call) (j : ℕ) → zoom_now w j ≤ peak w calls j
unfolding peak
now_peak w [] j = omega arith
now_peak w (call ∷ calls) j = omega arith

pub next_peak : (w : World) (call : Call) (calls : List Call) (j : ℕ) → peak (next w call) calls j ≤ peak w (call ∷ calls) j
unfolding peak
next_peak w call calls j = omega arith

inside_peak : (w : World) (call : Call) (calls : List Call) (j : ℕ)
    → when_accepted (verdict_of w call) (zoom_crossing w call j) 0 ≤ peak w (call ∷ calls) j
unfolding peak
inside_peak w call calls j = omega arith

pub crossing_peak : (w : World) (call : Call) (calls : List Call) (j : ℕ) → verdict_of w call ≡ Accepted → zoom_crossing w call j ≤ peak w (call ∷ calls) j
crossing_peak w call calls j v = rw v at (inside_peak w call calls j)

module _ (S : Settings) (ok : AcceptedSettings S) (M row col : ℕ) (top : M < max_zoom S.params.c) (hr : row < S.rows) (hl : col < S.cols) where
  abbrev j : ℕ
  j = row * S.cols + col

  module _ (T : Tally) (w : World) (h : Reached S T w) where
    placed : Placed row col w
    placed = record { fits = fits S ok T w h; good = h.good; in_rows = rw h.settings hr; in_cols = rw h.settings hl }

    place : cell_index w.sketch row col ≡ j
    place = rw h.settings refl

    below_top : M < max_zoom w.sketch.params.c
    below_top = rw h.settings top

  -- the zoom falls inside a stage only: so it is no higher than what is held inside the stages to come or after them
  pub rises : (stages : List Stage) (T : Tally) (w : World) → Coming S stages T w → zoom_now w j ≤ max (zoom_through w stages j) (zoom_now (through stages w) j)
  unfolding AllRight zoom_through through
  rises [] T w h = omega arith
  rises (stage ∷ stages) T w h =
      let here = rw (place T w h.reached) at (stage_rises row col w (placed T w h.reached) stage h.right.0) in
      omega (arith, here, rises stages (marked T stage) (done stage w) (coming_on S ok stage stages T w h))

  -- A STAGE
  keeps_stage : (stage : Stage) (stages : List Stage) (T : Tally) (w : World) → KeepsOn S M row col (stage ∷ stages) T w
      → KeepsOn S M row col stages (marked T stage) (done stage w)
  unfolding AllRight zoom_through through
  keeps_stage stage stages T w h =
      let r = h.coming.reached in
      let to = coming_on S ok stage stages T w h.coming in
      let law = rw (place T w r) at (stage_holds row col w (placed T w r) (below_top T w r) T r.clock stage h.coming.right.0) in
      record {
        coming = to;
        holds = law h.holds (omega (arith, h.inside)) (omega (arith, h.inside, h.after, rises stages (marked T stage) (done stage w) to));
        inside = omega (arith, h.inside);
        after = h.after;
      }

  module _ (T : Tally) (k : MicroCm) (g : List ℕ) (h : Reached S T (world k g)) where
    abbrev w : World
    w = world k g

    -- AN ACCEPTED CALL
    called_holds : (call : Call) → accepts S call ≡ true → HoldsAt M j (T.items row col) w → zoom_crossing w call j ≤ M → zoom_now (called call w) j ≤ M
        → HoldsAt M j ((noted T call).items row col) (called call w)
    called_holds call e known inside after =
        rw (← stages_as_tallied S ok T w h call)
        (through_on (KeepsOn S M row col) keeps_stage (stages_of k.clock call) T w
        (record { coming = call_coming S ok T w h call e; holds = known; inside = inside; after = after })).holds

    -- ANY CALL
    keeps_call : (call : Call) (calls : List Call) → Keeps S M row col (call ∷ calls) T w → Keeps S M row col calls (tallied S T call) (next w call)
    unfolding zoom_now
    keeps_call call calls h' =
        let later : peak (next w call) calls j ≤ M = le_trans (next_peak w call calls j) h'.below in
        step S ok T k g h (Keeps S M row col calls) call
        (λ e v. let below = rw (next_accepted k g call v) at later in
        let inside = le_trans (crossing_peak w call calls j v) h'.below in
        let after = le_trans (now_peak (settled (called call w)) calls j) below in
        record { reached = called_reached S ok T w h call e; holds = called_holds call e h'.holds inside after; below = below })
        (λ same. record { reached = h; holds = h'.holds; below = rw same at later })

  -- THE LIST
  pub run_keeps : (calls : List Call) (T : Tally) (k : MicroCm) (g : List ℕ) → Keeps S M row col calls T (world k g)
      → Keeps S M row col [] (tally_from S T calls) (run (world k g) calls)
  run_keeps = run_on S (Keeps S M row col) (λ call calls T k g h. keeps_call T k g h.reached call calls h)
