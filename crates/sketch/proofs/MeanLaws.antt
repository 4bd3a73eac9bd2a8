-- The mean divides Under by as many sub-windows as Under adds up: a quotient of a sum by the number of its terms. Assumes nothing.
use Prim.Native.Nat.{ℕ, ◌+◌, ◌-◌, ◌*◌, ◌/◌, ◌≤◌, ◌<◌, min}
use mathlib.Core.Path.{◌≡◌, refl, ap, ◌∙◌}
use mathlib.Core.List.{List}
use native.Mathlib.Nat.{div-mul-le_self, lt-div-mul-add, le-div_iff_mul-le, div-le_of_le-mul, add-mul, one-mul, mul_comm}
use native.Mathlib.Omega.{arith}
use Rattle.laws.specs.Sums.{total}
use Rattle.laws.proofs.SumLaws.{total_le, total_ge}
use Rattle.refusal.specs.declared.Verdict.TheVariants.{Accepted}
use Rattle.refusal.proofs.GateLaws.{gate_passed}
use Rattle.clock.specs.Clock.{n_of}
use Rattle.sketch.specs.declared.MicroCm.{MicroCm}
use Rattle.sketch.specs.Figures.{least_back, sum_back, under_of, begun_of, mean_of}
use Rattle.sketch.specs.Refusals.{read_verdict, read_call, mean_call}
use Rattle.sketch.specs.Mean.{MeanSays, MeanMeaning}
use Rattle.sketch.proofs.ReadyLaws.{keyed_ready}
use Rattle.sketch.proofs.ReadingLaws.{keyed, keyed_gate, cells}

-- A SUM BY THE NUMBER OF ITS TERMS
module _ (f : ℕ → ℕ) (parts : ℕ) (some : 1 ≤ parts) where
  whole : (m : ℕ) → (parts - 1 + 1) * m ≡ parts * m
  whole m =
      let e : parts - 1 + 1 ≡ parts = omega arith in
      rw e refl

  fewest : (m : ℕ) → ((i : ℕ) → i < parts → m ≤ f i) → m ≤ total (parts - 1) f / parts
  fewest m h =
      let sum : (parts - 1 + 1) * m ≤ total (parts - 1) f = total_ge (parts - 1) m f (λ i l. h i (omega (arith, some, l))) in
      (le-div_iff_mul-le some).1 (omega (arith, sum, whole m, mul_comm m parts))

  most : (m : ℕ) → ((i : ℕ) → i < parts → f i ≤ m) → total (parts - 1) f / parts ≤ m
  most m h =
      let sum : total (parts - 1) f ≤ (parts - 1 + 1) * m = total_le (parts - 1) m f (λ i l. h i (omega (arith, some, l))) in
      div-le_of_le-mul parts (omega (arith, sum, whole m))

one_more : (items parts : ℕ) → 1 ≤ parts → items < (items / parts + 1) * parts
one_more items parts some = rw (add-mul (items / parts) 1 parts, one-mul parts) (lt-div-mul-add some)

-- THE MEAN
module _ (k : MicroCm) (key g : List ℕ) where
  same_judge : (mean_call k key g).verdict ≡ (read_call k key g).verdict
  unfolding read_call mean_call
  same_judge = refl

  begun_some : 1 ≤ k.params.t → 1 ≤ begun_of k
  begun_some low = omega (arith, low)

  under_added : 1 ≤ k.params.t → under_of k g key ≡ total (begun_of k - 1) (least_back k g key)
  unfolding sum_back
  under_added low =
      let e : min (n_of k.clock) (k.params.t - 1) ≡ begun_of k - 1 = omega (arith, low) in
      rw e refl

  accepted_window : read_verdict k key g ≡ Accepted → 1 ≤ k.params.t
  accepted_window e = (keyed_ready k key g (gate_passed (keyed k key g) (keyed_gate k key g) (cells k key g) e).0).0.fit.t_low

  module _ (e : (mean_call k key g).verdict ≡ Accepted) where
    read_accepted : read_verdict k key g ≡ Accepted
    unfolding mean_call
    read_accepted = e

    mean_told_lem : (mean_call k key g).mean ≡ mean_of k g key
    unfolding mean_call
    mean_told_lem = rw read_accepted refl

    under_told : (read_call k key g).under ≡ under_of k g key
    unfolding read_call
    under_told = rw read_accepted refl

accepted_says : (k : MicroCm) (key g : List ℕ) → (mean_call k key g).verdict ≡ Accepted → MeanSays k key g
accepted_says k key g e =
    let low = accepted_window k key g (read_accepted k key g e) in
    let some = begun_some k key g low in
    let added = under_added k key g low in
    let terms = least_back k g key in
    let mean-is = mean_told_lem k key g e in
    let under-is = under_told k key g e in
    let by-terms : (mean_call k key g).mean ≡ total (begun_of k - 1) terms / begun_of k = mean-is ∙ ap (λ (items : ℕ). items / begun_of k) added in
    record {
      young = λ h. omega (arith, h);
      full = λ h. omega (arith, h);
      some = some;
      added = under-is ∙ added;
      low = rw (mean-is, under-is) (div-mul-le_self (under_of k g key) (begun_of k));
      high = rw (mean-is, under-is) (one_more (under_of k g key) (begun_of k) some);
      not_below = λ m h. rw by-terms (fewest terms (begun_of k) some m h);
      not_above = λ m h. rw by-terms (most terms (begun_of k) some m h);
    }

pub mean_says : MeanMeaning
mean_says = record { judged = same_judge; accepted = accepted_says }
