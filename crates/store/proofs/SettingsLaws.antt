-- Settings that pass have numbers that the header's fields hold, and few enough blocks to number.
use Prim.Native.Nat.{◌+◌, ◌*◌, ◌^◌, ◌≤◌, ◌<◌}
use mathlib.Core.Path.{◌≡◌}
use native.Mathlib.Omega.{arith}
use native.Mathlib.Nat.{mul-le-mul}
use Rattle.refusal.specs.declared.Verdict.TheVariants.{Accepted}
use Rattle.rounding.specs.Refusals.{refuse_state}
use Rattle.cell.specs.Cell.{depth_of}
use Rattle.sketch.specs.declared.MicroCm.{MicroCm}
use Rattle.sketch.specs.Sketch.{cells_of, grid_bytes}
use Rattle.sketch.proofs.SettingsLaws.{GoodSettings, good_settings}
use Rattle.store_header.specs.Header.{epoch_of}
use Rattle.clock.specs.Clock.{reading_of}
use Rattle.sketch.specs.Refusals.{numbers_verdict}
use Rattle.store.specs.Workers.{grid_blocks}
use Rattle.store_header.proofs.HeaderLaws.{Fits}
use Rattle.refusal.proofs.GateLaws.{gate_passed}
use Rattle.sketch.proofs.SketchGates.{settings_of, settings_gate}

-- what the code's words hold beside the settings
pub record Ranged (k : MicroCm) : Type 0 where
  pub epoch : epoch_of k.clock < 2 ^ 64
  pub reading : reading_of k.clock < 2 ^ 64
  pub state : k.rounding.state < 2 ^ 64

module _ (k : MicroCm) (good : numbers_verdict k ≡ Accepted) where
  pub settings_good : GoodSettings k.rows k.cols k.params k.clock
  settings_good = good_settings k.rows k.cols k.params k.clock
      (gate_passed (settings_of k) (settings_gate k) (refuse_state k.rounding.state Accepted) good).0

  pub settings_fit : Ranged k → Fits k
  settings_fit r =
      let s = settings_good in
      record {
        rows = omega (arith, s.grid.rows_high);
        cols = omega (arith, s.grid.cols_high);
        t = omega (arith, s.fit.t_high);
        c = omega (arith, s.fit.c_high);
        length = omega (arith, s.timed.short);
        epoch = r.epoch;
        reading = r.reading;
        state = r.state;
      }

  pub cells_limit : cells_of k ≤ 128 * 65536
  cells_limit = mul-le-mul settings_good.grid.rows_high settings_good.grid.cols_high

  -- at the most 128 rows of 65,536 cells of 4,104 bytes
  pub grid_limit : grid_bytes k ≤ 34426847232
  grid_limit =
      let depth : depth_of k.params.t ≤ 4104 = omega (arith, settings_good.fit.t_high) in
      mul-le-mul cells_limit depth

  pub blocks_few : 1 + grid_blocks k ≤ 2 ^ 32
  blocks_few = omega (arith, grid_limit)
