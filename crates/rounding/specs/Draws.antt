-- Document 01, "Draws": xorshift64* (Vigna), and the division that it rounds.
use Rattle.std.specs.Prelude.{ℕ, zero, suc, ◌+◌, ◌*◌, ◌/◌, ◌%◌, ◌^◌, cond, ltb, eqb}
use Rattle.std.specs.Int.Bits.{bit_xor}
use Rattle.rounding.specs.declared.Draw.{Draw}
use Rattle.rounding.specs.declared.Divided.{Divided}

-- the random state of a seed: 0 becomes 9E3779B97F4A7C15
unfoldable pub seeded : ℕ → ℕ
seeded seed = cond (eqb seed 0) 0x9E3779B97F4A7C15 seed

-- x ^= x >> k
unfoldable pub xor_down : ℕ → ℕ → ℕ
xor_down k x = bit_xor x (x / 2 ^ k)

-- x ^= x << k, the bits above 63 lost
unfoldable pub xor_up : ℕ → ℕ → ℕ
xor_up k x = bit_xor x ((x * 2 ^ k) % 2 ^ 64)

-- the state after a draw: x ^= x >> 12, x ^= x << 25, x ^= x >> 27
unfoldable pub next_state : ℕ → ℕ
next_state x = xor_down 27 (xor_up 25 (xor_down 12 x))

-- what a draw that leaves the state x yields: the product modulo 2 ^ 64
unfoldable pub yielded : ℕ → ℕ
yielded x = (x * 0x2545F4914F6CDD1D) % 2 ^ 64

-- a draw from the state x
abbrev pub draw_of : ℕ → Draw
draw_of x = record { state = next_state x; value = yielded (next_state x) }

-- the state so many draws on
unfoldable pub state_after : ℕ → ℕ → ℕ
state_after zero x = x
state_after (suc k) x = state_after k (next_state x)

-- ROUNDED DIVISION of v by d. Remainder 0 gives the quotient and draws nothing; else one draw,
-- and draw mod d below the remainder gives the quotient plus one, otherwise the quotient
unfoldable pub rounded_div : ℕ → ℕ → ℕ → Divided
rounded_div v d σ =
    cond (eqb (v % d) 0)
    (record { value = v / d; state = σ; draws = 0 })
    (record { value = cond (ltb (yielded (next_state σ) % d) (v % d)) (v / d + 1) (v / d); state = next_state σ; draws = 1 })
