-- A choice is one of its two, and each is known only under its own answer of the test.
use mathlib.Core.Path.{◌≡◌, refl, sym}
use mathlib.Core.Bool.{Bool, true, false, cond, ◌&&◌, true≢false}

pub either {ℓ} : {A : Type ℓ} (F : A → Type 0) (x : Bool) (a b : A) → (x ≡ true → F a) → (x ≡ false → F b) → F (cond x a b)
either F true a b f g = f refl
either F false a b f g = g refl

-- and so are two that go by the same test
pub both_by {ℓ ℓ'} : {A : Type ℓ} {B : Type ℓ'} (F : A → B → Type 0) (x : Bool) (a a' : A) (b b' : B) → (x ≡ true → F a b) → (x ≡ false → F a' b')
    → F (cond x a a') (cond x b b')
both_by F true a a' b b' f g = f refl
both_by F false a a' b b' f g = g refl

-- a test of two parts holds in each
pub both_hold : (a b : Bool) → a && b ≡ true → (a ≡ true) × (b ≡ true)
both_hold true b e = (refl, e)
both_hold false b e = absurd (true≢false (sym e))
