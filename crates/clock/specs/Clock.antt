-- Document 01, "Clock".
use Rattle.std.specs.Prelude.{ℕ, ◌+◌, ◌-◌, ◌/◌, ◌%◌, ◌^◌, min, max, Bool, true, false, ◌&&◌, eqb, Float}
use Rattle.std.specs.Float.{binary64}
use Rattle.std.specs.Float.Ieee.{sub, div}
use Rattle.laws.specs.Figure.{figure}
use Rattle.clock.specs.declared.SubWindowClock.{SubWindowClock}
use Rattle.clock.specs.declared.SubWindowClock.TheVariants.{CountBased, TimeBased}

-- the length of a sub-window
abbrev pub length_of : SubWindowClock → ℕ
length_of (CountBased length seen) = length
length_of (TimeBased length epoch now) = length

-- what it has read: the items seen, or the time now
abbrev pub reading_of : SubWindowClock → ℕ
reading_of (CountBased length seen) = seen
reading_of (TimeBased length epoch now) = now

-- what has passed since the clock began: items, or max(now − epoch, 0) (a difference of whole numbers is 0 where it would be negative)
abbrev pub passed_of : SubWindowClock → ℕ
passed_of (CountBased length seen) = seen
passed_of (TimeBased length epoch now) = now - epoch

-- the present sub-window n
unfoldable pub n_of : SubWindowClock → ℕ
n_of k = passed_of k / length_of k

-- 1.0 − (the remainder as f64 / length as f64): the quotient is rounded, and then the difference
unfoldable pub fraction_of : SubWindowClock → Float
fraction_of k = sub binary64 (figure 1) (div binary64 (figure (passed_of k % length_of k)) (figure (length_of k)))

abbrev pub is_count : SubWindowClock → Bool
is_count (CountBased length seen) = true
is_count (TimeBased length epoch now) = false

-- one more item: seen saturates at 2 ^ 64 − 1
abbrev pub tick_of : SubWindowClock → SubWindowClock
tick_of (CountBased length seen) = CountBased length (min (seen + 1) (2 ^ 64 - 1))
tick_of (TimeBased length epoch now) = TimeBased length epoch now

-- a reading: an older one leaves now
abbrev pub advance_of : SubWindowClock → ℕ → SubWindowClock
advance_of (CountBased length seen) reading = CountBased length seen
advance_of (TimeBased length epoch now) reading = TimeBased length epoch (max now reading)

-- how many sub-windows begin as one clock becomes the other
abbrev pub crossed_of : SubWindowClock → SubWindowClock → ℕ
crossed_of before after = n_of after - n_of before

-- a clock at its start: seen 0, or now = epoch
abbrev pub start_of : SubWindowClock → SubWindowClock
start_of (CountBased length seen) = CountBased length 0
start_of (TimeBased length epoch now) = TimeBased length epoch epoch

-- two clocks that number sub-windows alike: the same kind, length and, of time, epoch
abbrev pub same_frame : SubWindowClock → SubWindowClock → Bool
same_frame (CountBased length seen) (CountBased length' seen') = eqb length length'
same_frame (CountBased length seen) (TimeBased length' epoch' now') = false
same_frame (TimeBased length epoch now) (CountBased length' seen') = false
same_frame (TimeBased length epoch now) (TimeBased length' epoch' now') = eqb length length' && eqb epoch epoch'
