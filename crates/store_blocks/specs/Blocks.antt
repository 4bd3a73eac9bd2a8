-- Document 01, "Audit and block store": the block, and blocks one behind another.
use Rattle.std.specs.Prelude.{ℕ, zero, suc, ◌+◌, ◌-◌, ◌*◌, ◌/◌, Bool, true, ◌&&◌, List, [], ◌∷◌, ◌++◌, eqb, length, take, drop}
use Rattle.laws.specs.Bytes.{number_of, bytes_of}
use Rattle.laws.specs.Parts.{part}
use Rattle.store_bytes.specs.Fill.{filled}

-- THE BLOCK: 512 bytes, of which 504 are payload
abbrev pub block_bytes : ℕ
block_bytes = 512

abbrev pub payload_bytes : ℕ
payload_bytes = 504

-- bytes 0 to 507: all that the sum is over
abbrev pub body_bytes : ℕ
body_bytes = 508

-- the sum of byte i × (i + 1), the first of the list being byte i
unfoldable pub weighed_from : ℕ → List ℕ → ℕ
weighed_from i [] = 0
weighed_from i (x ∷ xs) = x * (i + 1) + weighed_from (suc i) xs

-- 0 to 3 its number, 4 to 507 the payload
abbrev pub body_of : ℕ → List ℕ → List ℕ
body_of number payload = bytes_of 4 number ++ filled payload_bytes payload

-- and 508 to 511 the sum
unfoldable pub block_of : ℕ → List ℕ → List ℕ
block_of number payload = body_of number payload ++ bytes_of 4 (weighed_from 0 (body_of number payload))

-- BLOCKS ONE BEHIND ANOTHER
-- so many blocks, numbered on from the first
unfoldable pub blocks_from : ℕ → ℕ → List ℕ → List ℕ
blocks_from number zero l = []
blocks_from number (suc count) l = block_of number (take payload_bytes l) ++ blocks_from (suc number) count (drop payload_bytes l)

-- READING
-- a block has its number, and the sum that its body makes
unfoldable pub block_passes : ℕ → List ℕ → Bool
block_passes number b = eqb (number_of (take 4 b)) number && eqb (number_of (drop body_bytes b)) (weighed_from 0 (take body_bytes b))

-- so many blocks, numbered on from the first, each pass
unfoldable pub blocks_pass : ℕ → ℕ → List ℕ → Bool
blocks_pass number zero l = true
blocks_pass number (suc count) l = block_passes number (take block_bytes l) && blocks_pass (suc number) count (drop block_bytes l)

abbrev pub payload_of : List ℕ → List ℕ
payload_of b = part 4 payload_bytes b

-- the payloads of so many blocks, one after another
unfoldable pub payloads_of : ℕ → List ℕ → List ℕ
payloads_of zero l = []
payloads_of (suc count) l = payload_of (take block_bytes l) ++ payloads_of count (drop block_bytes l)

-- what the blocks from 1 on carry: the grid, and the fill behind it
abbrev pub carried : List ℕ → List ℕ
carried store = payloads_of (length store / block_bytes - 1) (drop block_bytes store)
