-- Items 1 to 9 of the bench sheet, computed from the definitions by the checker. Assumes nothing.
use Prim.Native.Nat.{ℕ, suc, ◌%◌}
use mathlib.Core.Path.{◌≡◌, refl, sym, ◌∙◌}
use mathlib.Core.List.{[], ◌∷◌}
use native.Mathlib.Omega.{arith}
use native.Mathlib.Nat.{zero-add}
use Rattle.laws.specs.Steps.{still, made}
use Rattle.laws.specs.Powers.{highest}
use Rattle.laws.specs.Bytes.{number_of, bytes_of}
use Rattle.rounding.specs.Draws.{xor_down, xor_up, next_state, yielded, draw_of, rounded_div}
use Rattle.rounding.proofs.DivisionLaws.{up_case}
use Rattle.cell.specs.Cell.{shutter_of, with_shutter, max_zoom}
use Rattle.cell.specs.Insertion.{divide_each, zoom_out_of, credit_of, insert_of}
use Rattle.cell.specs.Crossing.{close_of, clear_of, emptied, inside_of, ceiling_of, all_at_most, times_each, zoomed_in, zoom_in_from, cross_of}
use Rattle.cell.specs.Merge.{scale_down, add_pair, add_each, cut_each, settle_from, merged_with, merge_of, sums_of}
use Rattle.cell.specs.BenchSheet.{CellItems, cell_with, one_draw, doubled}

item_9_odd : doubled 0 (cell_with 255 0 0 1 1) 1 ≡ one_draw (cell_with 255 0 0 2 0) 1
unfolding merge_of sums_of add_each add_pair scale_down settle_from cut_each divide_each all_at_most rounded_div next_state yielded xor_up xor_down
    shutter_of with_shutter number_of bytes_of max_zoom highest
item_9_odd = refl

none : (τ : ℕ) → rounded_div 0 2 τ ≡ record { value = 0; state = τ; draws = 0 }
unfolding rounded_div
none τ = refl

-- an even draw takes 511 up to 256, which does not fit a byte either: the zoom is raised once more
half_up : (σ : ℕ) → yielded (next_state σ) % 2 ≡ 0 → divide_each 2 (511 ∷ 0 ∷ 0 ∷ []) σ ≡ made (256 ∷ 0 ∷ 0 ∷ []) (next_state σ) 1 0
unfolding divide_each
half_up σ e =
    let up : rounded_div 511 2 σ ≡ record { value = 256; state = next_state σ; draws = 1 } =
    sym (up_case 511 2 σ (draw_of σ) (λ z. omega arith) refl (omega arith))
    in
    rw (up, none, none) refl

half_again : (σ : ℕ) → divide_each 2 (256 ∷ 0 ∷ 0 ∷ []) σ ≡ still (128 ∷ 0 ∷ 0 ∷ []) σ
unfolding divide_each rounded_div
half_again σ = refl

two_raises : (left σ : ℕ) → yielded (next_state σ) % 2 ≡ 0
    → settle_from 2 (suc (suc (suc left))) 1 (511 ∷ 0 ∷ 0 ∷ []) σ ≡ record { zoom = 3; sums = one_draw (128 ∷ 0 ∷ 0 ∷ []) σ }
unfolding settle_from all_at_most
two_raises left σ e = rw (half_up σ e, half_again (next_state σ)) refl

before_settling : (σ : ℕ) → doubled 0 (cell_with 255 0 0 1 1) σ ≡ merged_with 1 0 (cell_with 255 0 0 1 1) (settle_from 2 30 1 (511 ∷ 0 ∷ 0 ∷ []) σ)
unfolding merge_of sums_of add_each add_pair scale_down shutter_of number_of bytes_of max_zoom highest
before_settling σ = simp zero-add

after_settling : (σ : ℕ) → merged_with 1 0 (cell_with 255 0 0 1 1) (record { zoom = 3; sums = one_draw (128 ∷ 0 ∷ 0 ∷ []) σ }) ≡ one_draw (cell_with 128 0 0 3 0) σ
unfolding with_shutter bytes_of
after_settling σ = refl

item_9_even : (σ : ℕ) → yielded (next_state σ) % 2 ≡ 0 → doubled 0 (cell_with 255 0 0 1 1) σ ≡ one_draw (cell_with 128 0 0 3 0) σ
item_9_even σ e = before_settling σ ∙ rw (two_raises 27 σ e) (after_settling σ)

pub cell_items : CellItems
unfolding insert_of credit_of zoom_out_of divide_each rounded_div next_state yielded xor_up xor_down shutter_of with_shutter number_of bytes_of max_zoom highest
    cross_of inside_of close_of clear_of emptied zoom_in_from zoomed_in times_each all_at_most ceiling_of
    merge_of sums_of add_each add_pair scale_down settle_from cut_each
cell_items = record {
  item_1 = λ σ. refl;
  item_2 = λ σ. refl;
  item_3 = refl;
  item_4 = λ p₀ p₁ p₂ n σ. refl;
  item_5 = λ σ. refl;
  item_6 = λ σ. (refl, refl);
  item_7 = λ σ. (refl, refl);
  item_8 = λ σ. refl;
  item_9 = (item_9_odd, item_9_even);
  closing = refl;
}
