use Rattle.std.proofs.Common.{◌<◌}
use Rattle.try_replay.proofs.sketches.grid.digest.Given as goal

-- Each step of a digest is below the modulus.
abbrev pub invariant-loop-byte : goal.invariant-loop-byte
invariant-loop-byte l = l.sum < 36_028_797_018_963_913
