-- Each field is put behind those before it, and read where it was put.
use Prim.Native.Nat.{ℕ, ◌+◌, ◌-◌, ◌≤◌, ◌<◌}
use mathlib.Core.Path.{◌≡◌, sym, ap, ap₂, ◌∙◌}
use mathlib.Core.Bool.{Bool, true, false, not, ◌&&◌, ◌||◌}
use mathlib.Core.List.{List, [], ◌++◌, append-nil}
use lib.Dec.{eqb}
use lib.ListN.{length, take, drop, length-drop, take-append-drop, drop_of_length-le}
use lib.Seq.{take_all, take_at, drop_at}
use native.Mathlib.Omega.{arith}
use borrow.Author.Tests.{eq-eqb, ne_eqb, lt-ltb, le-ltb}
use Rattle.laws.specs.Bytes.{bytes_of}
use Rattle.laws.specs.Parts.{part}
use Rattle.clock.specs.declared.SubWindowClock.{SubWindowClock}
use Rattle.clock.specs.Clock.{length_of, reading_of}
use Rattle.sketch.specs.declared.MicroCm.{MicroCm}
use Rattle.store_bytes.specs.Fill.{all_zero}
use Rattle.store_header.specs.Header.{kind_of, epoch_of, field_of, clock_in, sketch_in, header_with}
use Rattle.store_header.specs.Refusals.{wrong_form, other_form}
use Rattle.store_header.specs.Workers.{Put, header_of}

-- THE HEADER
pub settings_written : (k : MicroCm) (kind base : ℕ) (b₀ b₁ b₂ b₃ b₄ b₅ b₆ : List ℕ) → kind ≡ kind_of k.clock
    → base ≡ k.params.c
    → Put 20 4 kind b₅ b₆
    → Put 16 4 base b₄ b₅
    → Put 12 4 k.params.t b₃ b₄
    → Put 8 4 k.cols b₂ b₃
    → Put 4 4 k.rows b₁ b₂
    → Put 0 4 1 b₀ b₁
    → length b₆ ≡ 24
    → b₆ ≡ take 24 (header_of k)
unfolding header_with bytes_of
settings_written k kind base b₀ b₁ b₂ b₃ b₄ b₅ b₆ ek eb e₆ e₅ e₄ e₃ e₂ e₁ long =
    sym (take_all 24 b₆ (omega arith)) ∙ e₆.is ∙ rw (e₅.is, e₄.is, e₃.is, e₂.is, e₁.is, ek, eb)

pub state_written : (k : MicroCm) (len epoch reading : ℕ) (b₀ b₁ b₂ b₃ b₄ : List ℕ)
    → len ≡ length_of k.clock → epoch ≡ epoch_of k.clock → reading ≡ reading_of k.clock
    → Put 24 8 k.rounding.state b₃ b₄
    → Put 16 8 reading b₂ b₃
    → Put 8 8 epoch b₁ b₂
    → Put 0 8 len b₀ b₁
    → length b₄ ≡ 32
    → b₄ ≡ drop 24 (header_of k)
unfolding header_with bytes_of
state_written k len epoch reading b₀ b₁ b₂ b₃ b₄ el ee er e₄ e₃ e₂ e₁ long =
    sym (take_all 32 b₄ (omega arith)) ∙ e₄.is ∙ rw (e₃.is, e₂.is, e₁.is, er, ee, el)

pub header_written : (k : MicroCm) (b u v : List ℕ) → length b ≡ 56 → u ≡ take 24 (header_of k) → v ≡ drop 24 (header_of k)
    → take 24 (u ++ drop 24 b) ++ (v ++ drop 32 (drop 24 (u ++ drop 24 b))) ≡ header_of k
unfolding header_with bytes_of
header_written k b u v long eu ev =
    let lu : length u ≡ 24 = ap length eu in
    let short : length (drop 24 b) ≤ 32 = simp length-drop (omega arith) in
    let rest : drop 32 (drop 24 b) ≡ [] = drop_of_length-le (drop 24 b) short in
    rw (take_at u (drop 24 b) 24 lu, drop_at u (drop 24 b) 24 lu, rest) (ap₂ ◌++◌ eu (append-nil v ∙ ev) ∙ take-append-drop 24 (header_of k))

-- WHAT IS JUDGED OF A HEADER, in the order of the tests
module _ (p : List ℕ) (form : ℕ) (ef : form ≡ field_of 4 0 p) where
  pub form_wrong : (form ≡ 1 → ⊥) → true ≡ wrong_form p
  unfolding other_form
  form_wrong h = rw (← ef, ne_eqb _ _ h)

  module _ (one : form ≡ 1) (kind : ℕ) (ek : kind ≡ field_of 4 20 p) where
    pub kind_wrong : 1 < kind → true ≡ wrong_form p
    unfolding other_form
    kind_wrong h = rw (← ef, ← ek, eq-eqb _ _ one, lt-ltb _ _ h)

    module _ (low : kind ≤ 1) (long : length p ≡ 504) (clear : Bool) (ec : clear ≡ all_zero (part 56 448 p)) where
      judged : wrong_form p ≡ (not clear || (eqb kind 0 && not (eqb (field_of 8 32 p) 0)))
      unfolding other_form
      judged =
          let rest : all_zero (drop 56 p) ≡ clear = ap all_zero (sym (take_all 448 (drop 56 p) (simp length-drop (omega arith)))) ∙ sym ec in
          rw (← ef, ← ek, eq-eqb _ _ one, le-ltb _ _ low, rest)

      pub rest_wrong : not clear ≡ true → true ≡ wrong_form p
      rest_wrong h = sym (judged ∙ rw h)

      module _ (zeros : not clear ≡ false) where
        pub time_right : (kind ≡ 0 → ⊥) → eqb kind 0 ≡ wrong_form p
        time_right h = ne_eqb _ _ h ∙ sym (judged ∙ rw (zeros, ne_eqb _ _ h))

        pub count_judged : kind ≡ 0 → (epoch : ℕ) → epoch ≡ field_of 8 32 p → not (eqb epoch 0) ≡ wrong_form p
        count_judged h epoch ee = sym (judged ∙ rw (zeros, eq-eqb _ _ h, ← ee))

-- WHAT A HEADER SAYS
pub sketch_is : (p : List ℕ) (rows cols t c state : ℕ) (clock : SubWindowClock) → rows ≡ field_of 4 4 p → cols ≡ field_of 4 8 p → t ≡ field_of 4 12 p
    → c ≡ field_of 4 16 p
    → clock ≡ clock_in p → state ≡ field_of 8 48 p
    → record { rows = rows; cols = cols; params = record { t = t; c = c }; clock = clock; rounding = record { state = state } } ≡ sketch_in p
unfolding sketch_in
sketch_is p rows cols t c state clock er ec et eb ek es = λ j. record {
  rows = er j;
  cols = ec j;
  params = record { t = et j; c = eb j };
  clock = ek j;
  rounding = record { state = es j };
}
