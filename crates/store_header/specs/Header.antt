-- Document 01, "Audit and block store": the header, payload of block 0.
use Rattle.std.specs.Prelude.{ℕ, cond, List, ◌++◌, eqb}
use Rattle.laws.specs.Bytes.{number_of, bytes_of}
use Rattle.laws.specs.Parts.{part}
use Rattle.clock.specs.declared.SubWindowClock.{SubWindowClock}
use Rattle.clock.specs.declared.SubWindowClock.TheVariants.{CountBased, TimeBased}
use Rattle.clock.specs.Clock.{length_of, reading_of}
use Rattle.sketch.specs.declared.MicroCm.{MicroCm}

-- WRITTEN: u32 at 0, 4, 8, 12, 16, 20; u64 at 24, 32, 40, 48; the rest 0
abbrev pub kind_of : SubWindowClock → ℕ
kind_of (CountBased length seen) = 0
kind_of (TimeBased length epoch now) = 1

abbrev pub epoch_of : SubWindowClock → ℕ
epoch_of (CountBased length seen) = 0
epoch_of (TimeBased length epoch now) = epoch

-- the header of a form, by its number
unfoldable pub header_with : ℕ → MicroCm → List ℕ
header_with form k =
    bytes_of 4 form ++ (bytes_of 4 k.rows ++ (bytes_of 4 k.cols ++ (bytes_of 4 k.params.t ++ (bytes_of 4 k.params.c ++ (bytes_of 4 (kind_of k.clock)
    ++ (bytes_of 8 (length_of k.clock) ++ (bytes_of 8 (epoch_of k.clock) ++ (bytes_of 8 (reading_of k.clock) ++ bytes_of 8 k.rounding.state))))))))

-- the form that is saved and loaded
abbrev pub form_number : ℕ
form_number = 1

-- READ
-- a number in a header's payload
abbrev pub field_of : ℕ → ℕ → List ℕ → ℕ
field_of width at payload = number_of (part at width payload)

abbrev pub clock_in : List ℕ → SubWindowClock
clock_in p = cond (eqb (field_of 4 20 p) 0) (CountBased (field_of 8 24 p) (field_of 8 40 p)) (TimeBased (field_of 8 24 p) (field_of 8 32 p) (field_of 8 40 p))

-- the sketch that a header's payload describes
unfoldable pub sketch_in : List ℕ → MicroCm
sketch_in p =
    record {
      rows = field_of 4 4 p;
      cols = field_of 4 8 p;
      params = record { t = field_of 4 12 p; c = field_of 4 16 p };
      clock = clock_in p;
      rounding = record { state = field_of 8 48 p };
    }
