-- `of_bits`: what a NaN's bits stand for is what 0 by 0 is; the rest is read.
use Rattle.std.proofs.Common.{◌≡◌, ℕ, Bool, true, sym, refl, ◌∙◌}
use lib.Ieee.{Float, nan, inf, fin, binary64, div, is_nan, nan_bits, of_bits}
use lib.Ieee.Bits.{nan_bits_is}
use Rattle.program_text.proofs.floats.of_bits.Goals as goal

is-that : (x : Float) → is_nan x ≡ true → nan ≡ x
unfolding is_nan
is-that nan h = refl
is-that (inf s) h = cc
is-that (fin s m e) h = cc

nothing-by-nothing : div binary64 (of_bits binary64 0) (of_bits binary64 0) ≡ nan
unfolding div of_bits
nothing-by-nothing = refl

a-nan : (b : ℕ) (r : Bool) → r ≡ nan_bits binary64 b → r ≡ true → div binary64 (of_bits binary64 0) (of_bits binary64 0) ≡ of_bits binary64 b
a-nan b r e h = nothing-by-nothing ∙ is-that (of_bits binary64 b) (sym (nan_bits_is binary64 b) ∙ sym e ∙ h)

pub returns-then-is_nan : goal.returns-then-is_nan
returns-then-is_nan c = a-nan c.args.bits c.is_nan.result c.is_nan.ensures c.if-is_nan.true
