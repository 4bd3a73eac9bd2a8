-- The stages of the sums in the form in which the code comes to them: the raises, the pixels, the carry. Assumes nothing.
use Prim.Native.Nat.{ℕ, suc, ◌+◌, ◌-◌, ◌*◌, ◌^◌, ◌≤◌, ◌<◌}
use mathlib.Core.Path.{◌≡◌, refl, sym, ap, ◌∙◌}
use mathlib.Core.Bool.{Bool, true, false}
use mathlib.Core.List.{List, [], ◌∷◌}
use lib.Dec.{leb}
use Rattle.std.specs.List.{list_all}
use lib.ListN.{length, take, get_or, set}
use native.Mathlib.Nat.{add_assoc, add-zero}
use native.Mathlib.Omega.{arith}
use Rattle.laws.specs.Steps.{Step, still, made}
use Rattle.cell.specs.declared.Drawn.{Drawn}
use Rattle.cell_merging_sums.specs.declared.worker.Summed.{Summed}
use Rattle.cell.specs.Cell.{pixels_of, zoom_of, max_zoom}
use Rattle.cell.specs.Insertion.{divide_each}
use Rattle.cell.specs.Crossing.{all_at_most}
use Rattle.cell.specs.Merge.{cut_each, cut_off, Settled, settled_later, settle_from, settle_of, with_carry, sums_of}
use Rattle.cell.specs.Workers.{step_of}
use Rattle.cell_merging_sums.specs.Workers.{added_of, flat_sums, settled_of}
use Rattle.cell.proofs.DivideLaws.{divide_draws}
use Rattle.cell.proofs.PowerLaws.{max_zoom_limit}
use Rattle.cell.proofs.SumsLaws.{most_at, most_up, most_set}
use Rattle.cell.proofs.SettleLaws.{cut_low, divide_most, settle_fit, settle_raise, settle_few}
use Rattle.cell_merging_sums.proofs.SumLoops.{flat_is}

-- SETTLE: the zoom is z by now, and the sums are l
pub record Settling (c z₀ : ℕ) (l₀ : List ℕ) (σ : ℕ) (l : List ℕ) (s n z : ℕ) : Type 0 where
  pub done : settle_of c z₀ l₀ σ ≡ settled_later n (settle_from c (max_zoom c - z) z l s)
  pub same : length l ≡ length l₀
  pub most : z ≤ max_zoom c
  pub low : all_at_most 511 l ≡ true

module _ (c z₀ : ℕ) (l₀ : List ℕ) (σ : ℕ) where
  pub settling_few : (l : List ℕ) (s n z : ℕ) → Settling c z₀ l₀ σ l s n z → length l₀ ≤ 4098 → n ≤ 31 * 4098
  settling_few l s n z w few =
      omega (arith, ap (λ (r : Settled). r.sums.draws) w.done, settle_few c (max_zoom c - z₀) z₀ l₀ σ (omega (arith, max_zoom_limit c)) few)

  pub settling_fits : (l : List ℕ) (s n z : ℕ) → Settling c z₀ l₀ σ l s n z → length l₀ ≤ 4098
      → (τ : ℕ) (l' : List ℕ) (d : Drawn) → step_of l' d ≡ divide_each c l τ → n + d.draws < 2 ^ 32
  settling_fits l s n z w few τ l' d e =
      omega (arith, settling_few l s n z w few, ap (λ (r : Step). r.draws) e, divide_draws c l τ, w.same)

  module _ (l : List ℕ) (s n z : ℕ) (w : Settling c z₀ l₀ σ l s n z) where
    -- no zoom is left
    pub settling_cut : max_zoom c ≤ z → (top : ℕ) → top ≡ max_zoom c → (l' : List ℕ) (o : ℕ) → l' ≡ cut_each l → o ≡ cut_off l
        → record { zoom = top; sums = made l' s n o } ≡ settle_of c z₀ l₀ σ
    unfolding settle_from
    settling_cut h top et l' o e eo =
        let q : max_zoom c - z ≡ 0 = omega arith in
        let ez : z ≡ max_zoom c = omega (arith, w.most) in
        sym (w.done ∙ rw (q, ← e, ← eo, ez, ← et) (simp add-zero))

    module _ (fit : Bool) (ef : fit ≡ all_at_most 255 l) where
      pub settling_fit : fit ≡ true → record { zoom = z; sums = made l s n 0 } ≡ settle_of c z₀ l₀ σ
      settling_fit g = sym (w.done ∙ rw (settle_fit c (max_zoom c - z) z l s (sym ef ∙ g)) (simp add-zero))

      module _ (g : fit ≡ false) (low : z < max_zoom c) (l' : List ℕ) (d : Drawn) (e : step_of l' d ≡ divide_each c l s) where
        settling_turn : settle_of c z₀ l₀ σ ≡ settled_later n (settled_later d.draws (settle_from c (max_zoom c - (z + 1)) (z + 1) l' d.state))
        settling_turn =
            let q : max_zoom c - z ≡ suc (max_zoom c - (z + 1)) = omega arith in
            (rw q at w.done) ∙ rw (settle_raise c (max_zoom c - (z + 1)) z l s (sym ef ∙ g), ← e) refl

        pub settling_on : 2 ≤ c → length l' ≡ length l → Settling c z₀ l₀ σ l' d.state (n + d.draws) (z + 1)
        settling_on base same = record {
          done = settling_turn ∙ simp add_assoc;
          same = same ∙ w.same;
          most = omega arith;
          low = rw (ap (λ (r : Step). r.bytes) e) (divide_most c base l s w.low);
        }

pub cut_known : (l l' : List ℕ) → l' ≡ cut_each l → all_at_most 255 l' ≡ true
cut_known l l' e = rw e (cut_low l)

-- ALL FIT: the test that `all_at_most` makes of each
pub all_most : (m : ℕ) (l : List ℕ) → list_all (λ x. leb x m) l ≡ all_at_most m l
unfolding all_at_most
all_most m [] = refl
all_most m (x ∷ xs) = rw (all_most m xs) refl

-- ADD THE PIXELS
module _ (t c target p z z' : ℕ) (b src : List ℕ) (σ : ℕ) (ez : z ≡ zoom_of t b) (ez' : z' ≡ zoom_of t src) (ep : p ≡ pixels_of t) where
  pub added_flat : target - z ≡ 0 → target - z' ≡ 0 → (l : List ℕ) → l ≡ flat_sums (take p b) (take p src)
      → still l σ ≡ added_of t c target b src σ
  added_flat d d' l e = rw (← ez, ← ez', ← ep, d, d', e) (sym (flat_is c (take p b) (take p src) σ))

-- THE SUMS: what the pixels gave, the carry, and what settled
pub carry_fits : (l : List ℕ) (slot carry : ℕ) → all_at_most 510 l ≡ true → carry ≤ 1 → get_or l slot 0 + carry < 2 ^ 32
carry_fits l slot carry low h = omega (arith, most_at 510 l slot low)

pub carry_most : (l : List ℕ) (slot carry : ℕ) → all_at_most 510 l ≡ true → carry ≤ 1 → all_at_most 511 (set l slot (get_or l slot 0 + carry)) ≡ true
carry_most l slot carry low h = most_set 511 l slot (get_or l slot 0 + carry) (most_up 510 511 l (omega arith) low) (omega (arith, most_at 510 l slot low))

module _ (t c target slot carry : ℕ) (b src : List ℕ) (σ : ℕ) (l l' l'' : List ℕ) (r : Drawn) (r' : Summed)
    (ea : step_of l r ≡ added_of t c target b src σ)
    (ec : l' ≡ with_carry slot carry l) (es : settled_of l'' r' ≡ settle_of c target l' r.state) where
  pub sums_are : record { zoom = r'.zoom; sums = made l'' r'.state (r.draws + r'.draws) r'.lost }
      ≡ sums_of t c target slot carry b src σ
  unfolding sums_of
  sums_are = rw (← ea, ← ec) (ap (settled_later r.draws) es)
