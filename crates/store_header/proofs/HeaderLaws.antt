-- Each field stands where it is looked for, in as many bytes as its number needs: so a header written is read back, and one read is written back.
use Prim.Native.Nat.{ℕ, zero, suc, ◌+◌, ◌^◌, ◌≤◌, ◌<◌}
use mathlib.Core.Path.{◌≡◌, refl, sym, ap, ◌∙◌}
use mathlib.Core.Bool.{Bool, true, false, true≢false, cond, not, ◌&&◌, ◌||◌}
use mathlib.Core.List.{List, ◌++◌}
use lib.Dec.{eqb, ltb}
use lib.ListN.{length, take, drop}
use lib.Seq.{take-add, drop-drop}
use native.Mathlib.Omega.{arith}
use borrow.Author.Tests.{eqb-true, ltb-false, not-false}
use Rattle.laws.specs.Bytes.{bytes_of}
use Rattle.laws.specs.Parts.{part}
use Rattle.laws.proofs.ByteLaws.{number_bytes_small, bytes_number}
use Rattle.laws.proofs.PartLaws.{part_length}
use Rattle.clock.specs.declared.SubWindowClock.{SubWindowClock}
use Rattle.clock.specs.declared.SubWindowClock.TheVariants.{CountBased, TimeBased}
use Rattle.clock.specs.Clock.{length_of, reading_of}
use Rattle.sketch.specs.declared.MicroCm.{MicroCm}
use Rattle.store_bytes.specs.Fill.{filled, all_zero}
use Rattle.store_header.specs.Header.{kind_of, epoch_of, field_of, clock_in, sketch_in, header_with}
use Rattle.store_header.specs.Workers.{header_of}
use Rattle.store_header.specs.Refusals.{wrong_form, other_form}
use Rattle.store_bytes.proofs.FillLaws.{filled_is, cut_alike}
use Rattle.laws.proofs.SmallLaws.{Small, small_take, small_drop}

-- a sketch whose numbers fit the fields
pub record Fits (k : MicroCm) : Type 0 where
  pub rows : k.rows < 2 ^ 32
  pub cols : k.cols < 2 ^ 32
  pub t : k.params.t < 2 ^ 32
  pub c : k.params.c < 2 ^ 32
  pub length : length_of k.clock < 2 ^ 64
  pub epoch : epoch_of k.clock < 2 ^ 64
  pub reading : reading_of k.clock < 2 ^ 64
  pub state : k.rounding.state < 2 ^ 64

-- A HEADER AS IT IS WRITTEN
-- a clock from its fields
abbrev clock_from : Bool → ℕ → ℕ → ℕ → SubWindowClock
clock_from counts length epoch reading = cond counts (CountBased length reading) (TimeBased length epoch reading)

clock_back : (clock : SubWindowClock) → clock_from (eqb (kind_of clock) 0) (length_of clock) (epoch_of clock) (reading_of clock) ≡ clock
clock_back (CountBased length seen) = refl
clock_back (TimeBased length epoch now) = refl

kind_fits : (clock : SubWindowClock) → kind_of clock < 2 ^ 32
kind_fits (CountBased length seen) = omega arith
kind_fits (TimeBased length epoch now) = omega arith

-- the kind and the epoch, as a load judges them
kind_right : (clock : SubWindowClock) → (ltb 1 (kind_of clock) || false || (eqb (kind_of clock) 0 && not (eqb (epoch_of clock) 0))) ≡ false
kind_right (CountBased length seen) = refl
kind_right (TimeBased length epoch now) = refl

module _ (k : MicroCm) where
  abbrev written : List ℕ
  written = filled 504 (header_of k)

  kind_read : field_of 4 20 written ≡ kind_of k.clock
  unfolding header_with bytes_of
  kind_read = number_bytes_small 4 (kind_of k.clock) (kind_fits k.clock)

  form_read : field_of 4 0 written ≡ 1
  unfolding header_with bytes_of
  form_read = number_bytes_small 4 1 (omega arith)

  rest_read : all_zero (drop 56 written) ≡ true
  unfolding header_with bytes_of all_zero
  rest_read = refl

  module _ (fits : Fits k) where
    epoch_read : field_of 8 32 written ≡ epoch_of k.clock
    unfolding header_with bytes_of
    epoch_read = number_bytes_small 8 (epoch_of k.clock) fits.epoch

    pub header_form : wrong_form written ≡ false
    unfolding other_form
    header_form = rw (form_read, kind_read, epoch_read, rest_read) (kind_right k.clock)

    clock_read : clock_in written ≡ k.clock
    unfolding header_with bytes_of
    clock_read =
        let l : field_of 8 24 written ≡ length_of k.clock = number_bytes_small 8 (length_of k.clock) fits.length in
        let r : field_of 8 40 written ≡ reading_of k.clock = number_bytes_small 8 (reading_of k.clock) fits.reading in
        (λ j. clock_from (eqb (kind_read j) 0) (l j) (epoch_read j) (r j)) ∙ clock_back k.clock

    pub header_sketch : sketch_in written ≡ k
    unfolding header_with bytes_of sketch_in
    header_sketch =
        let rows : field_of 4 4 written ≡ k.rows = number_bytes_small 4 k.rows fits.rows in
        let cols : field_of 4 8 written ≡ k.cols = number_bytes_small 4 k.cols fits.cols in
        let t : field_of 4 12 written ≡ k.params.t = number_bytes_small 4 k.params.t fits.t in
        let c : field_of 4 16 written ≡ k.params.c = number_bytes_small 4 k.params.c fits.c in
        let state : field_of 8 48 written ≡ k.rounding.state = number_bytes_small 8 k.rounding.state fits.state in
        λ j. record { rows = rows j; cols = cols j; params = record { t = t j; c = c j }; clock = clock_read j; rounding = record { state = state j } }

-- A HEADER AS IT IS READ
kind_in : (kind length epoch reading : ℕ) → kind ≤ 1 → kind_of (clock_from (eqb kind 0) length epoch reading) ≡ kind
kind_in zero length epoch reading h = refl
kind_in (suc zero) length epoch reading h = refl
kind_in (suc (suc n)) length epoch reading h = absurd (omega arith)

length_in : (counts : Bool) (length epoch reading : ℕ) → length_of (clock_from counts length epoch reading) ≡ length
length_in true length epoch reading = refl
length_in false length epoch reading = refl

reading_in : (counts : Bool) (length epoch reading : ℕ) → reading_of (clock_from counts length epoch reading) ≡ reading
reading_in true length epoch reading = refl
reading_in false length epoch reading = refl

epoch_in : (counts : Bool) (length epoch reading : ℕ) → (counts && not (eqb epoch 0)) ≡ false → epoch_of (clock_from counts length epoch reading) ≡ epoch
epoch_in true length epoch reading e = sym (eqb-true epoch 0 (not-false (eqb epoch 0) e))
epoch_in false length epoch reading e = refl

pub neither : (a b : Bool) → (a || b) ≡ false → (a ≡ false) × (b ≡ false)
neither true b e = absurd (true≢false e)
neither false b e = (refl, e)

part_join : (a d m : ℕ) (p : List ℕ) → part a (d + m) p ≡ part a d p ++ part (a + d) m p
part_join a d m p = take-add d m (drop a p) ∙ rw (drop-drop d a p)

module _ (p : List ℕ) where
  -- what a load judges
  record Right : Type 0 where
    form : field_of 4 0 p ≡ 1
    kind : field_of 4 20 p ≤ 1
    rest : all_zero (drop 56 p) ≡ true
    epoch : (eqb (field_of 4 20 p) 0 && not (eqb (field_of 8 32 p) 0)) ≡ false

  right_form : wrong_form p ≡ false → Right
  unfolding other_form
  right_form e =
      let (abc, d) = neither _ (eqb (field_of 4 20 p) 0 && not (eqb (field_of 8 32 p) 0)) e in
      let (ab, c) = neither _ (not (all_zero (drop 56 p))) abc in
      let (a, b) = neither _ (ltb 1 (field_of 4 20 p)) ab in
      record { form = eqb-true _ _ (not-false _ a); kind = ltb-false _ _ b; rest = not-false _ c; epoch = d }

  header_parts : take 56 p
      ≡ part 0 4 p ++ (part 4 4 p ++ (part 8 4 p ++ (part 12 4 p ++
      (part 16 4 p ++ (part 20 4 p ++ (part 24 8 p ++ (part 32 8 p ++ (part 40 8 p ++ part 48 8 p))))))))
  header_parts = rw (
    part_join 0 4 52 p,
    part_join 4 4 48 p,
    part_join 8 4 44 p,
    part_join 12 4 40 p,
    part_join 16 4 36 p,
    part_join 20 4 32 p,
    part_join 24 8 24 p,
    part_join 32 8 16 p,
    part_join 40 8 8 p,
  )

  module _ (long : length p ≡ 504) (small : Small p) (right : wrong_form p ≡ false) where
    field_back : (width at : ℕ) → at + width ≤ 504 → bytes_of width (field_of width at p) ≡ part at width p
    field_back width at room =
        bytes_number width (part at width p) (part_length at width p (rw long room)) (small_take width (drop at p) (small_drop at p small))

    header_first : header_of (sketch_in p) ≡ take 56 p
    unfolding header_with sketch_in
    header_first =
        let r = right_form right in
        let counts = eqb (field_of 4 20 p) 0 in
        rw (
          kind_in (field_of 4 20 p) (field_of 8 24 p) (field_of 8 32 p) (field_of 8 40 p) r.kind,
          length_in counts (field_of 8 24 p) (field_of 8 32 p) (field_of 8 40 p),
          epoch_in counts (field_of 8 24 p) (field_of 8 32 p) (field_of 8 40 p) r.epoch,
          reading_in counts (field_of 8 24 p) (field_of 8 32 p) (field_of 8 40 p),
          ap (bytes_of 4) (sym r.form) ∙ field_back 4 0 (omega arith),
          field_back 4 4 (omega arith),
          field_back 4 8 (omega arith),
          field_back 4 12 (omega arith),
          field_back 4 16 (omega arith),
          field_back 4 20 (omega arith),
          field_back 8 24 (omega arith),
          field_back 8 32 (omega arith),
          field_back 8 40 (omega arith),
          field_back 8 48 (omega arith),
        )
        (sym header_parts)

    pub header_back : filled 504 (header_of (sketch_in p)) ≡ p
    header_back = filled_is 504 (header_of (sketch_in p)) p long (λ i h. rw header_first (cut_alike 56 p (right_form right).rest i))
