-- What the workers promise each other. No public contract cites this file.
use Rattle.std.specs.Prelude.{ℕ, ◌+◌, ◌≡◌, List, ◌++◌, take}
use Rattle.laws.specs.Bytes.{bytes_of}
use Rattle.sketch.specs.declared.MicroCm.{MicroCm}
use Rattle.store_header.specs.Header.{form_number, header_with}

-- a number's lowest bytes were put behind the first `at` bytes; what stands behind them is not told
pub record Put (at width n : ℕ) (before after : List ℕ) : Type 0 where
  pub is : take (at + width) after ≡ take at before ++ bytes_of width n

-- the header of the form that is saved and loaded
abbrev pub header_of : MicroCm → List ℕ
header_of k = header_with form_number k
