-- `is_nan`: the two tests are the two of the definition.
use Rattle.std.proofs.Common.{◌≡◌, ℕ, ◌/◌, ◌%◌, not, eqb, eq-eqb, ne_eqb}
use lib.Ieee.{nan_bits, binary64}
use Rattle.program_text.proofs.floats.is_nan.Goals as goal

not-all-ones : (b : ℕ) → (b % 0x8000_0000_0000_0000 / 0x10_0000_0000_0000 ≡ 2047 → ⊥) → eqb (b % 0x8000_0000_0000_0000 / 0x10_0000_0000_0000) 2047 ≡ nan_bits binary64 b
unfolding nan_bits
not-all-ones b h = rw (ne_eqb (b % 0x8000_0000_0000_0000 / 0x10_0000_0000_0000) 2047 h)

all_ones : (b : ℕ) → b % 0x8000_0000_0000_0000 / 0x10_0000_0000_0000 ≡ 2047 → not (eqb (b % 0x10_0000_0000_0000) 0) ≡ nan_bits binary64 b
unfolding nan_bits
all_ones b h = rw (eq-eqb (b % 0x8000_0000_0000_0000 / 0x10_0000_0000_0000) 2047 h)

pub returns-then-bits-eq2047 : goal.returns-then-bits-eq2047
returns-then-bits-eq2047 c = all_ones c.args.bits c.if-bits-eq2047.true

pub returns-else-bits-eq2047 : goal.returns-else-bits-eq2047
returns-else-bits-eq2047 c = not-all-ones c.args.bits c.if-bits-eq2047.false
