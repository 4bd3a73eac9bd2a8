-- What a crossing does by zooming in, and that no other bytes would do. Assumes nothing.
use Prim.Native.Nat.{ℕ, ◌≤◌, ◌<◌}
use mathlib.Core.Path.{◌≡◌, refl, sym, ap, ◌∙◌}
use mathlib.Core.List.{List}
use lib.Dec.{eqb}
use lib.ListN.{length}
use native.Mathlib.Omega.{arith}
use native.Mathlib.Decide.{ℕ_discrete}
use borrow.Author.Tests.{eqb-true, eqb-false}
use Rattle.laws.specs.Steps.{Step, still, leaving}
use Rattle.laws.proofs.ChoiceLaws.{either}
use Rattle.laws.proofs.SmallLaws.{Small}
use Rattle.refusal.specs.declared.Verdict.TheVariants.{Accepted}
use Rattle.cell.specs.declared.MicroParams.{MicroParams}
use Rattle.cell.specs.Cell.{pixels_of, pixel_of, zoom_of}
use Rattle.cell.specs.Crossing.{inside_of, zoom_in_of, cross_of}
use Rattle.cell.specs.Refusals.{cross_call}
use Rattle.cell.specs.Workers.{Fit}
use Rattle.cell.proofs.CellLaws.{same_cell}
use Rattle.cell.proofs.JudgingLaws.{accepted_fit}
use Rattle.cell.proofs.LargestLaws.{levels, only}
use Rattle.cell.proofs.CrossingLaws.{Quiet, inside_far, inside_quiet}
use Rattle.cell.proofs.LengthLaws.{cross_length}
use Rattle.cell.proofs.PixelLaws.{emptied_pixel}
use Rattle.cell.specs.ZoomIn.{levels_in, cleared_of, FallsBy, CrossesTo, ZoomInMeaning}
use Rattle.cell.proofs.ZoomInFalls.{in_falls_by}

-- THE CROSSING
module _ (t c n crossed : ℕ) (b : List ℕ) (σ : ℕ) (fit : Fit t c (length b)) (small : Small b) where
  abbrev inside : List ℕ
  inside = cleared_of t c n crossed b σ

  quiet : Quiet t c b σ (inside_of t c n crossed b σ)
  quiet = inside_quiet t c n crossed b σ fit

  inside_falls : FallsBy t c (levels_in t c inside) inside (zoom_in_of t c inside)
  inside_falls = in_falls_by t c inside (rw quiet.kept.long fit) (quiet.kept.small small) quiet.shutter

  far_zeros : pixels_of t ≤ crossed → (slot : ℕ) → slot < pixels_of t → pixel_of inside slot ≡ 0
  far_zeros h slot l = ap (λ (s : Step). pixel_of s.bytes slot) (inside_far t c n crossed b σ h) ∙ emptied_pixel t c b fit slot l

  far_ends : pixels_of t ≤ crossed → zoom_of t (zoom_in_of t c inside) ≡ 0
  far_ends h = omega (arith, inside_falls.zoom, inside_falls.empty (far_zeros h))

  pub crosses_to : CrossesTo t c n crossed b σ (cross_of t c n crossed b σ).bytes
  unfolding cross_of
  crosses_to =
      either (λ (s : Step). CrossesTo t c n crossed b σ s.bytes) (eqb crossed 0) (still b σ) (leaving (inside_of t c n crossed b σ) (zoom_in_of t c inside))
      (λ e. record { by_none = λ h. refl; by_some = λ ne. absurd (ne (eqb-true crossed 0 e)); far = λ h. absurd (omega (arith, eqb-true crossed 0 e)) })
      (λ e. record { by_none = λ h. absurd (eqb-false crossed 0 e h); by_some = λ ne. inside_falls; far = far_ends })

nothing : (t c n : ℕ) (b : List ℕ) (σ : ℕ) → cross_of t c n 0 b σ ≡ still b σ
unfolding cross_of
nothing t c n b σ = refl

-- NO OTHER BYTES
module _ (t c n crossed : ℕ) (b : List ℕ) (σ : ℕ) (fit : Fit t c (length b)) (small : Small b) (after : List ℕ) (long : length after ≡ length b) where
  -- what falls by one k from one cell is one cell
  same_fall : (k : ℕ) (cleared other : List ℕ) → length other ≡ length b → FallsBy t c k cleared after → FallsBy t c k cleared other → after ≡ other
  same_fall k cleared other long' p q =
      same_cell t after other (long ∙ fit.size_is) (long' ∙ fit.size_is) (λ i l. p.pixels i l ∙ sym (q.pixels i l)) (omega (arith, p.zoom, q.zoom))
      p.shutter q.shutter (p.pads ∙ sym q.pads)

  closes : CrossesTo t c n crossed b σ after → after ≡ (cross_of t c n crossed b σ).bytes
  closes w = by (ℕ_discrete crossed 0)
    where
      by : Dec (crossed ≡ 0) → after ≡ (cross_of t c n crossed b σ).bytes
      by (yes e) = w.by_none e ∙ sym ((crosses_to t c n crossed b σ fit small).by_none e)
      by (no e) =
          same_fall (levels_in t c (cleared_of t c n crossed b σ)) (cleared_of t c n crossed b σ) (cross_of t c n crossed b σ).bytes
          (cross_length t c n crossed b σ fit) (w.by_some e)
          ((crosses_to t c n crossed b σ fit small).by_some e)

call_crosses : (p : MicroParams) (n crossed : ℕ) (b : List ℕ) (σ : ℕ) → Small b → (cross_call p n crossed b σ).answer.verdict ≡ Accepted
    → CrossesTo p.t p.c n crossed b σ (cross_call p n crossed b σ).bytes
unfolding cross_call
call_crosses p n crossed b σ small e = rw e (crosses_to p.t p.c n crossed b σ (accepted_fit p σ (length b) _ e) small)

pub zoom_in_says : ZoomInMeaning
zoom_in_says = record {
  crossing = λ t c n crossed b σ fit low. crosses_to t c n crossed b σ fit (λ i. omega (arith, low i));
  nothing = nothing;
  closes = λ t c n crossed b σ fit low. closes t c n crossed b σ fit (λ i. omega (arith, low i));
  call = λ p n crossed b σ low. call_crosses p n crossed b σ (λ i. omega (arith, low i));
  levels = levels;
  only = only;
}
