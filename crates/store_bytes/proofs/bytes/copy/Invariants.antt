-- `copy`: before i the bytes of `from`, from i on what stood there.
use Rattle.store_bytes.proofs.CopyLoops.{Copying}
use Rattle.store_bytes.proofs.bytes.copy.Given as goal

abbrev pub invariant-loop-i : goal.invariant-loop-i
invariant-loop-i l = Copying l.from l.initial.b l.b l.i
