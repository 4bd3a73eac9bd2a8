-- What the workers of an insertion rely on. No public contract cites this file.
use Rattle.std.specs.Prelude.{ℕ, Bool, cond}

-- what a pixel counts as when it is divided: the credited one has taken the unit that it has no room for
abbrev pub counted : Bool → ℕ → ℕ
counted credited pixel = cond credited 256 pixel
