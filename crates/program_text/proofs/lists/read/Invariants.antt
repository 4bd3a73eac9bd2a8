use Rattle.std.proofs.Common.{◌≤◌}
use Rattle.program_text.proofs.lists.read.Given as goal

-- Each code has a column at least.
abbrev pub invariant-loop-word : goal.invariant-loop-word
invariant-loop-word l = l.codes ≤ l.filled
