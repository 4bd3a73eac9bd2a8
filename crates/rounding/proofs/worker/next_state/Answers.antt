-- `next_state`: the code's shifts and xors are the definition's. Assumes nothing.
use mathlib.Core.Path.{refl}
use Rattle.rounding.specs.Draws.{next_state, xor_down, xor_up}
use Rattle.rounding.proofs.worker.next_state.Goals as goal

pub returns : goal.returns
unfolding next_state xor_down xor_up
returns c = refl
