-- Draws and divisions that the checker computes: the definitions are not empty. Assumes nothing.
use mathlib.Core.Path.{◌≡◌, refl}
use Rattle.refusal.specs.declared.Verdict.TheVariants.{Refused}
use Rattle.rounding.specs.Draws.{seeded, xor_down, xor_up, next_state, yielded, draw_of, state_after, rounded_div}
use Rattle.rounding.specs.Refusals.{division_call}

from_one : draw_of 1 ≡ record { state = 33554433; value = 5180492295206395165 }
unfolding next_state xor_up xor_down yielded
from_one = refl

-- the third draw of the seed 0
from_zero : draw_of (state_after 2 (seeded 0)) ≡ record { state = 4961370155820717784; value = 12125365036566318712 }
unfolding state_after next_state xor_up xor_down yielded seeded
from_zero = refl

-- 7 / 2: the draw is odd, and 1 < 1 does not hold, so the quotient stays; 8 / 3: the draw leaves 1 below the remainder 2
seven_halves : rounded_div 7 2 1 ≡ record { value = 3; state = 33554433; draws = 1 }
unfolding rounded_div next_state xor_up xor_down yielded
seven_halves = refl

eight_thirds : rounded_div 8 3 1 ≡ record { value = 3; state = 33554433; draws = 1 }
unfolding rounded_div next_state xor_up xor_down yielded
eight_thirds = refl

six_halves : rounded_div 6 2 1 ≡ record { value = 3; state = 1; draws = 0 }
unfolding rounded_div
six_halves = refl

both_wrong : division_call 6 0 0 ≡ record { verdict = Refused 5; value = 0; rounding = record { state = 0 }; draws = 0 }
unfolding division_call
both_wrong = refl
