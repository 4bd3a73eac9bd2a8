-- `bits` gives a float's own pattern, and the one NaN's for all of them.
use Rattle.std.proofs.Common.{◌≡◌, true, false, not, T, refl, sym, ◌∙◌}
use lib.Ieee.{Float, nan, inf, fin, binary64, is_nan, to_bits}
use Rattle.program_text.proofs.floats.bits.Goals as goal

nan-bits : (x : Float) → is_nan x ≡ true → 0x7FF8_0000_0000_0000 ≡ to_bits binary64 x
unfolding is_nan to_bits
nan-bits nan h = refl
nan-bits (inf s) h = cc
nan-bits (fin s m e) h = cc

number : (x : Float) → is_nan x ≡ false → T (not (is_nan x))
number x h = rw h tt

pub returns-then-is_nan : goal.returns-then-is_nan
returns-then-is_nan c = nan-bits c.args.x (sym c.is_nan.ensures.value ∙ c.if-is_nan.true)

pub float_to_bits-result : goal.float_to_bits-result
float_to_bits-result c = number c.args.x (sym c.is_nan.ensures.value ∙ c.if-is_nan.false)
