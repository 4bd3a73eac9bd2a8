-- What accepted settings say of their numbers: each cause of the table, denied. Assumes nothing.
use Prim.Native.Nat.{ℕ, zero, suc, ◌*◌, ◌^◌, ◌≤◌}
use mathlib.Core.Path.{◌≡◌, refl, sym}
use mathlib.Core.Bool.{Bool, true, false, cond, ◌&&◌, true≢false}
use native.Mathlib.Omega.{arith}
use native.Mathlib.Nat.{mul-le-mul_left, pow-le-pow_right}
use lib.Dec.{leb, eqb}
use borrow.Author.Tests.{leb-true, eqb-true, not-false}
use Rattle.refusal.specs.declared.Verdict.TheVariants.{Accepted}
use Rattle.refusal.proofs.VerdictLaws.{not_refused, inside_range}
use Rattle.cell.specs.declared.MicroParams.{MicroParams}
use Rattle.cell.specs.Cell.{depth_of}
use Rattle.cell.specs.Workers.{Fit}
use Rattle.clock.specs.declared.SubWindowClock.{SubWindowClock}
use Rattle.clock.specs.Clock.{length_of}
use Rattle.clock.specs.Workers.{GoodLength}
use Rattle.sketch.specs.Refusals.{bits_up_to, grid_fits, refuse_settings}

-- a test of several parts holds in each
all_three : (a b c : Bool) → a && b && c ≡ true → (a ≡ true) × (b ≡ true) × (c ≡ true)
all_three true true c e = (refl, refl, e)
all_three true false c e = absurd (true≢false (sym e))
all_three false b c e = absurd (true≢false (sym e))

-- cols is the power of two that its bits say
pub bits_power : (k cols : ℕ) → 1 ≤ bits_up_to k cols → (cols ≡ 2 ^ bits_up_to k cols) × (bits_up_to k cols ≤ k)
unfolding bits_up_to
bits_power zero cols h = absurd (omega arith)
bits_power (suc k) cols h = by (eqb cols (2 ^ suc k)) refl (bits_power k cols) h
  where
    by : (x : Bool) → eqb cols (2 ^ suc k) ≡ x → (1 ≤ bits_up_to k cols → (cols ≡ 2 ^ bits_up_to k cols) × (bits_up_to k cols ≤ k))
        → 1 ≤ cond x (suc k) (bits_up_to k cols) → (cols ≡ 2 ^ cond x (suc k) (bits_up_to k cols)) × (cond x (suc k) (bits_up_to k cols) ≤ suc k)
    by true e less h = (eqb-true _ _ e, omega arith)
    by false e less h = ((less h).0, omega (arith, (less h).1))

pub record GoodGrid (rows cols : ℕ) : Type 0 where
  pub rows_low : 1 ≤ rows
  pub rows_high : rows ≤ 128
  pub bits_low : 1 ≤ bits_up_to 16 cols
  pub bits_high : bits_up_to 16 cols ≤ 16
  pub cols_power : cols ≡ 2 ^ bits_up_to 16 cols
  pub cols_low : 2 ≤ cols
  pub cols_high : cols ≤ 65536
  pub key_bits : rows * bits_up_to 16 cols ≤ 128

pub good_grid : (rows cols : ℕ) → grid_fits rows cols ≡ true → GoodGrid rows cols
unfolding grid_fits
good_grid rows cols e =
    let parts = all_three (leb 1 rows) (leb 1 (bits_up_to 16 cols)) (leb (rows * bits_up_to 16 cols) 128) e in
    let some : 1 ≤ rows = leb-true 1 rows parts.0 in
    let low : 1 ≤ bits_up_to 16 cols = leb-true 1 (bits_up_to 16 cols) parts.1 in
    let most : rows * bits_up_to 16 cols ≤ 128 = leb-true (rows * bits_up_to 16 cols) 128 parts.2 in
    let is = bits_power 16 cols low in
    let least-power : 2 ^ 1 ≤ 2 ^ bits_up_to 16 cols = pow-le-pow_right (omega arith) low in
    let most-power : 2 ^ bits_up_to 16 cols ≤ 2 ^ 16 = pow-le-pow_right (omega arith) is.1 in
    record {
      rows_low = some;
      rows_high = omega (arith, mul-le-mul_left rows low);
      bits_low = low;
      bits_high = is.1;
      cols_power = is.0;
      cols_low = omega (arith, is.0);
      cols_high = omega (arith, is.0);
      key_bits = most;
    }

pub record GoodSettings (rows cols : ℕ) (p : MicroParams) (clock : SubWindowClock) : Type 0 where
  pub fit : Fit p.t p.c (depth_of p.t)
  pub timed : GoodLength clock
  pub grid : GoodGrid rows cols

pub good_settings : (rows cols : ℕ) (p : MicroParams) (clock : SubWindowClock) → refuse_settings rows cols p clock Accepted ≡ Accepted
    → GoodSettings rows cols p clock
good_settings rows cols p clock e =
    let no1 = not_refused 1 _ _ e in
    let no2 = not_refused 2 _ _ no1.1 in
    let no3 = not_refused 3 _ _ no2.1 in
    let no4 = not_refused 4 _ _ no3.1 in
    record {
      fit =
          record {
            t_low = (inside_range 1 4096 p.t no1.0).0;
            t_high = (inside_range 1 4096 p.t no1.0).1;
            c_low = (inside_range 2 256 p.c no2.0).0;
            c_high = (inside_range 2 256 p.c no2.0).1;
            size_is = refl;
          };
      timed = record {
        some = (inside_range 1 (2 ^ 53) (length_of clock) no3.0).0;
        short = (inside_range 1 (2 ^ 53) (length_of clock) no3.0).1;
      };
      grid = good_grid rows cols (not-false _ no4.0);
    }
