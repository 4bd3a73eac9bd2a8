-- What words stand for, case by case, in the form in which the code comes to it. Assumes nothing.
use Prim.Native.Nat.{ℕ, ◌^◌, ◌<◌, ◌≤◌}
use mathlib.Core.Path.{◌≡◌, refl}
use mathlib.Core.List.{List}
use lib.ListN.{get_or}
use borrow.Author.Tests.{ne_eqb, lt-ltb, le-ltb}
use Rattle.cell.specs.declared.MicroParams.{MicroParams}
use Rattle.clock.specs.declared.SubWindowClock.{SubWindowClock}
use Rattle.clock.specs.declared.SubWindowClock.TheVariants.{CountBased, TimeBased}
use Rattle.clock.specs.Clock.{reading_of}
use Rattle.sketch.specs.declared.MicroCm.{MicroCm}
use Rattle.edge_values.specs.Edge.{clock_of, base_of, params_of, sketch_of, words_by, words_with, words_of, watch_of}

-- THE CLOCK of a kind
module _ (kind length epoch reading : ℕ) where
  pub kind_count : kind ≡ 0 → CountBased length reading ≡ clock_of kind length epoch reading
  unfolding clock_of
  kind_count e = rw e refl

  module _ (other : kind ≡ 0 → ⊥) where
    pub kind_time : kind ≡ 1 → TimeBased length epoch reading ≡ clock_of kind length epoch reading
    unfolding clock_of
    kind_time e = rw e refl

    pub kind_none : (kind ≡ 1 → ⊥) → CountBased 0 0 ≡ clock_of kind length epoch reading
    unfolding clock_of
    kind_none another = rw (ne_eqb kind 0 other, ne_eqb kind 1 another) refl

-- THE SETTINGS
pub base_kept : (c : ℕ) → c < 2 ^ 32 → c ≡ base_of c
unfolding base_of
base_kept c h = rw (lt-ltb c (2 ^ 32) h) refl

pub base_none : (c : ℕ) → 2 ^ 32 ≤ c → 0 ≡ base_of c
unfolding base_of
base_none c h = rw (le-ltb c (2 ^ 32) h) refl

-- THE SKETCH
pub sketch_read : (w : List ℕ) (p : MicroParams) (clock : SubWindowClock) → p ≡ params_of (get_or w 2 0) (get_or w 3 0)
    → clock ≡ clock_of (get_or w 4 0) (get_or w 5 0) (get_or w 6 0) (get_or w 7 0)
    → record { rows = get_or w 0 0; cols = get_or w 1 0; params = p; clock = clock; rounding = record { state = get_or w 8 0 } } ≡ sketch_of w
unfolding sketch_of
sketch_read w p clock ep ec = rw (ep, ec) refl

module _ (k : MicroCm) (length : ℕ) where
  pub count_put : (seen : ℕ) → k.clock ≡ CountBased length seen → words_by k 0 length 0 seen ≡ words_of k
  unfolding words_with
  count_put seen e = rw e refl

  pub time_put : (epoch now : ℕ) → k.clock ≡ TimeBased length epoch now → words_by k 1 length epoch now ≡ words_of k
  unfolding words_with
  time_put epoch now e = rw e refl

pub reading_count : (clock : SubWindowClock) (length seen : ℕ) → clock ≡ CountBased length seen → seen ≡ reading_of clock
reading_count clock length seen e = rw e refl

pub reading_time : (clock : SubWindowClock) (length epoch now : ℕ) → clock ≡ TimeBased length epoch now → now ≡ reading_of clock
reading_time clock length epoch now e = rw e refl

-- WATCHED CODES
pub watch_read : (w : List ℕ) → record { count = get_or w 0 0; rows = get_or w 1 0; reached = get_or w 2 0 } ≡ watch_of w
unfolding watch_of
watch_read w = refl
