-- What holds of a world beside the tally, fresh and after each stage: a recording and a crossing keep a sketch good, and a clock its kind and length.
use Prim.Native.Nat.{ℕ, ◌≤◌, ◌<◌, ◌^◌}
use mathlib.Core.Path.{◌≡◌, refl, ap, ◌∙◌}
use mathlib.Core.Bool.{Bool, true, ◌&&◌}
use mathlib.Core.List.{List, [], ◌∷◌}
use native.Mathlib.Omega.{arith}
use Rattle.rounding.specs.Draws.{seeded}
use Rattle.cell.specs.Cell.{depth_of}
use Rattle.cell.specs.Workers.{Fit}
use Rattle.clock.specs.declared.SubWindowClock.{SubWindowClock}
use Rattle.clock.specs.declared.SubWindowClock.TheVariants.{CountBased, TimeBased}
use Rattle.clock.specs.Clock.{length_of, n_of, is_count, tick_of, advance_of, start_of}
use Rattle.clock.proofs.ClockLaws.{Keeps, tick_keeps, advance_keeps, start_keeps, tick_reading, tick_grows, advance_grows}
use Rattle.sketch.specs.declared.MicroCm.{MicroCm}
use Rattle.sketch.specs.Sketch.{World, recorded, moved}
use Rattle.sketch.specs.Refusals.{key_fits}
use Rattle.sketch.proofs.SettingsLaws.{good_settings}
use Rattle.laws.proofs.ChoiceLaws.{both_hold}
use Rattle.sketch.proofs.GridLaws.{Fits}
use Rattle.sketch.proofs.WorldLaws.{GoodWorld, fresh_good, recorded_good, moved_good, settings_fit}
use Rattle.band.specs.Calls.{Call, update, update_at, advance, Settings, fresh}
use Rattle.band.specs.Stages.{Stage, recording, moving, stages_of, done}
use Rattle.band.specs.Tally.{Tally, key_accepted, accepts, empty, marked, noted}
use Rattle.band.specs.Band.{AcceptedSettings}
use Rattle.band.proofs.Runs.{called, settled, through_on}

-- a count that is a u64
abbrev pub Counts : SubWindowClock → Type 0
Counts (CountBased length seen) = seen < 2 ^ 64
Counts (TimeBased length epoch now) = Unit {0}

-- a clock that another may become: a count stays a u64, so that a tick never lowers n
pub record Onward (before after : SubWindowClock) : Type 0 where
  pub keeps : Keeps before after
  pub counts : Counts after
  pub grows : n_of before ≤ n_of after

tick_onward : (k : SubWindowClock) → Counts k → Onward k (tick_of k)
tick_onward (CountBased l s) h =
    record { keeps = tick_keeps (CountBased l s); counts = tick_reading (CountBased l s) h; grows = tick_grows (CountBased l s) h }
tick_onward (TimeBased l e n) h = record { keeps = tick_keeps (TimeBased l e n); counts = h; grows = omega arith }

advance_onward : (k : SubWindowClock) (reading : ℕ) → Counts k → Onward k (advance_of k reading)
advance_onward (CountBased l s) reading h =
    record { keeps = advance_keeps (CountBased l s) reading; counts = h; grows = advance_grows (CountBased l s) reading }
advance_onward (TimeBased l e n) reading h =
    record { keeps = advance_keeps (TimeBased l e n) reading; counts = h; grows = advance_grows (TimeBased l e n) reading }

counts_start : (k : SubWindowClock) → Counts (start_of k)
counts_start (CountBased l s) = omega arith
counts_start (TimeBased l e n) = tt

-- STAGES THAT ARE RIGHT in a world: columns that fit, and a clock that goes on
abbrev pub Right : World → Stage → Type 0
Right w (recording key) = key_fits w.sketch key ≡ true
Right w (moving clock) = Onward w.sketch.clock clock

unfoldable pub AllRight : World → List Stage → Type 0
AllRight w [] = Unit {0}
AllRight w (stage ∷ stages) = Right w stage × AllRight (done stage w) stages

-- a sketch of these settings, at a clock and a random state
abbrev pub sketch_of : Settings → SubWindowClock → ℕ → MicroCm
sketch_of S clock σ = record { rows = S.rows; cols = S.cols; params = S.params; clock = clock; rounding = record { state = σ } }

-- WHAT IS KNOWN of a world beside a tally: it has the settings, and the tally's clock, of their kind and length, and it is good
pub record Reached (S : Settings) (T : Tally) (w : World) : Type 0 where
  pub settings : w.sketch ≡ sketch_of S w.sketch.clock w.sketch.rounding.state
  pub clock : w.sketch.clock ≡ T.clock
  pub kind : is_count w.sketch.clock ≡ is_count S.clock
  pub span : length_of w.sketch.clock ≡ length_of S.clock
  pub counts : Counts w.sketch.clock
  pub good : GoodWorld w

-- its sketch, in the tally's words
pub sketch_is : (S : Settings) (T : Tally) (w : World) → Reached S T w → w.sketch ≡ sketch_of S T.clock w.sketch.rounding.state
sketch_is S T w h = h.settings ∙ ap (λ clock. sketch_of S clock w.sketch.rounding.state) h.clock

-- with right stages to come
pub record Coming (S : Settings) (stages : List Stage) (T : Tally) (w : World) : Type 0 where
  pub right : AllRight w stages
  pub reached : Reached S T w

module _ (S : Settings) (ok : AcceptedSettings S) where
  pub fit : Fit S.params.t S.params.c (depth_of S.params.t)
  fit = settings_fit S.rows S.cols S.params S.clock (good_settings S.rows S.cols S.params S.clock ok)

  -- FRESH
  pub fresh_reached : (seed : ℕ) → Reached S (empty S) (fresh S seed)
  unfolding empty
  fresh_reached seed = record {
    settings = refl;
    clock = refl;
    kind = (start_keeps S.clock).kind;
    span = (start_keeps S.clock).length;
    counts = counts_start S.clock;
    good = fresh_good (sketch_of S (start_of S.clock) (seeded seed)) fit seed;
  }

  module _ (T : Tally) (w : World) (h : Reached S T w) where
    pub fits : Fits w.sketch
    fits = rw h.settings fit

    -- A STAGE
    pub stage_reached : (stage : Stage) → Right w stage → Reached S (marked T stage) (done stage w)
    unfolding recorded moved
    stage_reached (recording key) right = record {
      settings = rw h.settings refl;
      clock = h.clock;
      kind = h.kind;
      span = h.span;
      counts = h.counts;
      good = recorded_good w fits h.good key right;
    }
    stage_reached (moving clock) right = record {
      settings = rw h.settings refl;
      clock = refl;
      kind = right.keeps.kind ∙ h.kind;
      span = right.keeps.length ∙ h.span;
      counts = right.counts;
      good = moved_good w fits h.good clock;
    }

  pub coming_on : (stage : Stage) (stages : List Stage) (T : Tally) (w : World) → Coming S (stage ∷ stages) T w
      → Coming S stages (marked T stage) (done stage w)
  unfolding AllRight
  coming_on stage stages T w h = record { right = h.right.1; reached = stage_reached T w h.reached stage h.right.0 }

  -- AN ACCEPTED CALL: its stages are right
  module _ (T : Tally) (w : World) (h : Reached S T w) where
    -- columns that the tally accepts
    key_fits_lem : (key : List ℕ) (more : Bool) → (key_accepted S key && more) ≡ true → key_fits w.sketch key ≡ true
    unfolding key_fits
    key_fits_lem key more e = rw h.settings (both_hold (key_accepted S key) more e).0

    stages_right : (call : Call) → accepts S call ≡ true → AllRight w (stages_of w.sketch.clock call)
    unfolding accepts AllRight recorded moved key_fits
    stages_right (update key) e = (key_fits_lem key _ e, (tick_onward w.sketch.clock h.counts, tt))
    stages_right (update_at key reading) e = (advance_onward w.sketch.clock reading h.counts, (key_fits_lem key _ e, tt))
    stages_right (advance reading) e = (advance_onward w.sketch.clock reading h.counts, tt)

    -- and they are the tally's
    pub stages_as_tallied : (call : Call) → stages_of w.sketch.clock call ≡ stages_of T.clock call
    stages_as_tallied call = ap (λ clock. stages_of clock call) h.clock

    pub call_coming : (call : Call) → accepts S call ≡ true → Coming S (stages_of w.sketch.clock call) T w
    call_coming call e = record { right = stages_right call e; reached = h }

    pub called_reached : (call : Call) → accepts S call ≡ true → Reached S (noted T call) (settled (called call w))
    called_reached call e =
        let r = (through_on (Coming S) coming_on (stages_of w.sketch.clock call) T w (call_coming call e)).reached in
        rw (← stages_as_tallied call)
        (record { settings = r.settings; clock = r.clock; kind = r.kind; span = r.span; counts = r.counts; good = r.good })
