-- The ways through the header's answer: each way out is what its definition gives there.
use Prim.Native.Nat.{ℕ, ◌^◌}
use mathlib.Core.Path.{◌≡◌, refl, sym, ap, ◌∙◌}
use mathlib.Core.Bool.{Bool, true, false, not}
use mathlib.Core.List.{List}
use lib.Dec.{eqb}
use Rattle.refusal.specs.declared.Verdict.{Verdict}
use Rattle.refusal.specs.declared.Verdict.TheVariants.{Accepted, Unsound}
use Rattle.refusal.specs.declared.Verdict.TheVariants as verdict
use Rattle.refusal.specs.Refusals.{number_of, is_accepted, refuse, outside, when_accepted}
use Rattle.refusal.proofs.VerdictLaws.{refused_leaves, turned_back_lem, let_pass}
use Rattle.clock.specs.Clock.{length_of}
use Rattle.sketch.specs.declared.MicroCm.{MicroCm}
use Rattle.sketch.specs.Refusals.{grid_fits, numbers_verdict}
use Rattle.store_header.specs.declared.Header.TheVariants.{Sketch, Refused}
use Rattle.store_header.specs.Header.{sketch_in}
use Rattle.store_header.specs.Refusals.{wrong_form, header_verdict, header_in}

-- THE HEADER'S ANSWER
module _ (p : List ℕ) (wrong : Bool) (ew : wrong ≡ wrong_form p) where
  pub form_told : wrong ≡ true → Refused 18 ≡ header_in p
  unfolding header_in
  form_told h = rw (← ew, h)

  module _ (h : wrong ≡ false) (k : MicroCm) (ek : k ≡ sketch_in p) (v : Verdict) (ok : Bool) (ev : v ≡ numbers_verdict k) (asked : ok ≡ is_accepted v) where
    judged_so : header_verdict p ≡ v
    judged_so = rw (← ew, h) (ap numbers_verdict (sym ek) ∙ sym ev)

    pub number_told : not ok ≡ true → (n : ℕ) → n ≡ number_of v → Refused n ≡ header_in p
    unfolding header_in
    number_told m n en = rw judged_so (ap Refused en ∙ sym (refused_leaves v (Sketch (sketch_in p)) (Refused (number_of v)) (turned_back_lem v ok asked m)))

    pub sketch_told : not ok ≡ false → Sketch k ≡ header_in p
    unfolding header_in
    sketch_told m = rw (judged_so, let_pass v ok asked m, ek)

-- of a header 14 is never told
data Plain : Verdict → Type 0 where
  accepted : Plain Accepted
  refused : (n : ℕ) → Plain (verdict.Refused n)

plain_refuse : (n : ℕ) (cause : Bool) (rest : Verdict) → Plain rest → Plain (refuse n cause rest)
plain_refuse n true rest p = refused n
plain_refuse n false rest p = p

header_plain : (p : List ℕ) → Plain (header_verdict p)
header_plain p =
    let k = sketch_in p in
    plain_refuse 18 (wrong_form p) _
    (plain_refuse 1 (outside 1 4096 k.params.t) _
    (plain_refuse 2 (outside 2 256 k.params.c) _
    (plain_refuse 3 (outside 1 (2 ^ 53) (length_of k.clock)) _
    (plain_refuse 4 (not (grid_fits k.rows k.cols)) _ (plain_refuse 5 (eqb k.rounding.state 0) _ accepted)))))

plain_number : (v : Verdict) → Plain v → (k : MicroCm) (n : ℕ) → when_accepted v (Sketch k) (Refused (number_of v)) ≡ Refused n → v ≡ verdict.Refused n
plain_number v accepted k n e = cc
plain_number v (refused m) k n e = cc

pub header_refused : (p : List ℕ) (n : ℕ) → header_in p ≡ Refused n → header_verdict p ≡ verdict.Refused n
unfolding header_in
header_refused p n e = plain_number (header_verdict p) (header_plain p) (sketch_in p) n e

pub sketch_said : (p : List ℕ) (k : MicroCm) → header_in p ≡ Sketch k → (header_verdict p ≡ Accepted) × (k ≡ sketch_in p)
unfolding header_in
sketch_said p k e = by (header_verdict p) e
  where
    by : (v : Verdict) → when_accepted v (Sketch (sketch_in p)) (Refused (number_of v)) ≡ Sketch k → (v ≡ Accepted) × (k ≡ sketch_in p)
    by Accepted e = (refl, cc)
    by (verdict.Refused n) e = (cc, cc)
    by (Unsound j) e = (cc, cc)
