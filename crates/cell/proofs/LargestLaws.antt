-- `levels_up_to` goes down from z to the first number that fits, so it gives the largest, and of these there is one. Assumes nothing.
use Prim.Native.Nat.{ℕ, zero, suc, ◌*◌, ◌^◌, ◌≤◌}
use mathlib.Core.Path.{◌≡◌}
use mathlib.Core.Logic.{⊎_elim}
use lib.Dec.{leb}
use native.Mathlib.Omega.{arith}
use native.Mathlib.Nat.{pow-zero, one-mul, le-suc_iff, not-le_of_lt}
use borrow.Author.Tests.{leb-true, leb-false}
use Rattle.laws.proofs.ChoiceLaws.{either}
use Rattle.cell.specs.ZoomIn.{levels_up_to, Largest}

module _ (c m : ℕ) where
  pub levels : (z : ℕ) → m ≤ 255 → Largest c m z (levels_up_to c m z)
  unfolding levels_up_to
  levels zero low = record { at_most = omega arith; fits = rw (pow-zero c, one-mul m) low; no_more = λ other l e. l }
  levels (suc z) low =
      let w : Largest c m z (levels_up_to c m z) = levels z low in
      either (Largest c m (suc z)) (leb (c ^ suc z * m) 255) (suc z) (levels_up_to c m z)
      (λ e. record { at_most = omega arith; fits = leb-true _ _ e; no_more = λ other l h. l })
      (λ e. record {
        at_most = omega (arith, w.at_most);
        fits = w.fits;
        no_more = λ other l h. ⊎_elim (λ q. w.no_more other q h) (λ q. absurd (not-le_of_lt (leb-false _ _ e) (rw q at h))) (le-suc_iff.0 l);
      })

  pub only : (z k : ℕ) → Largest c m z k → k ≡ levels_up_to c m z
  unfolding levels_up_to
  only zero k h = omega (arith, h.at_most)
  only (suc z) k h =
      either (λ (x : ℕ). k ≡ x) (leb (c ^ suc z * m) 255) (suc z) (levels_up_to c m z)
      (λ e. omega (arith, h.at_most, h.no_more (suc z) (omega arith) (leb-true _ _ e)))
      (λ e. ⊎_elim
      (λ q. only z k (record { at_most = q; fits = h.fits; no_more = λ other l. h.no_more other (omega arith) }))
      (λ q. absurd (not-le_of_lt (leb-false _ _ e) (rw q at h.fits)))
      (le-suc_iff.0 h.at_most))
