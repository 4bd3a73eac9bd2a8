-- What the workers ask and give. The public call has judged it; no public contract cites this file.
use Rattle.std.specs.Prelude.{ℕ, zero, suc, ◌+◌, ◌-◌, ◌*◌, ◌≤◌, ◌<◌, min, ◌≡◌, Bool, true, cond, List, length, set, take, drop}
use Rattle.sketch.specs.declared.MicroCm.{MicroCm}
use Rattle.sketch.specs.Sketch.{cells_of, key_cells}
use Rattle.sketch.specs.Audit.{first_unsound}
use Rattle.sketch.specs.Refusals.{all_below, key_fits}
use Rattle.sketch.specs.Workers.{Ready, Readable}
use Rattle.codes.specs.Codes.{code_in, reached_at, newly, flag_at, flags_of, onto}
use Rattle.codes_asking.specs.declared.pass.Found.{Found}

-- the columns of so many codes stand in the memory that is lent, each below cols
pub record Held (k : MicroCm) (columns g : List ℕ) (count : ℕ) : Type 0 where
  pub ready : Ready k (length g)
  pub few : count ≤ 64
  pub long : length columns ≡ 8192
  pub below : all_below k.cols (take (count * k.rows) columns) ≡ true

abbrev pub itself : ℕ → ℕ
itself j = j

-- the first unsound cell of a code; the number of cells where it has none
abbrev pub bad_in : MicroCm → List ℕ → List ℕ → ℕ → ℕ
bad_in k columns g code = first_unsound itself (cells_of k) k g (key_cells k 0 (code_in k.rows columns code))

-- the smallest of those of the codes below n
unfoldable pub least_bad : MicroCm → List ℕ → List ℕ → ℕ → ℕ
least_bad k columns g zero = cells_of k
least_bad k columns g (suc n) = min (least_bad k columns g n) (bad_in k columns g n)

-- a code's columns as they are lent, a part of the slice: `code_in` in the form that a slice's bounds give
abbrev pub lent_code : MicroCm → List ℕ → ℕ → List ℕ
lent_code k columns code = take (code * k.rows + k.rows - code * k.rows) (drop (code * k.rows) columns)

-- a code's columns stand there, and are a key
pub record Placed (k : MicroCm) (columns g : List ℕ) (code : ℕ) : Type 0 where
  pub ready : Ready k (length g)
  pub room : code * k.rows + k.rows ≤ length columns
  pub long : length columns ≡ 8192
  pub fits : key_fits k (code_in k.rows columns code) ≡ true

-- and its cells were judged, so that it can be read
pub record Askable (k : MicroCm) (columns g : List ℕ) (code : ℕ) : Type 0 where
  pub room : code * k.rows + k.rows ≤ length columns
  pub long : length columns ≡ 8192
  pub readable : Readable k (code_in k.rows columns code) g

-- everything that a pass over the codes relies on
pub record Room (k : MicroCm) (count : ℕ) (columns limits g list : List ℕ) : Type 0 where
  pub few : count ≤ 64
  pub long : length columns ≡ 8192
  pub limited : length limits ≡ 64
  pub readable : (code : ℕ) → code < count → Readable k (code_in k.rows columns code) g
  pub room : count ≤ length list

-- a code is written behind those listed, or all is left
pub record Noted (list : List ℕ) (listed code : ℕ) (new : Bool) (list' : List ℕ) (listed' : ℕ) : Type 0 where
  pub list_is : list' ≡ cond new (set list listed code) list
  pub listed_is : listed' ≡ cond new (listed + 1) listed

-- what a pass leaves
pub record Told (k : MicroCm) (count : ℕ) (columns limits : List ℕ) (before : ℕ) (g list list' : List ℕ) (r : Found) : Type 0 where
  pub listed_is : r.listed ≡ length (newly (reached_at k g columns limits) (flag_at before) count)
  pub reached_is : r.reached ≡ flags_of (reached_at k g columns limits) count
  pub list_is : list' ≡ onto list (newly (reached_at k g columns limits) (flag_at before) count)
