use Rattle.store_bytes.proofs.CopyLoops.{copying_in, copying_on}
use borrow.Author.Rules.{rules}
use Rattle.store_bytes.proofs.bytes.copy.Goals as goal

pub bounds-from-i : goal.bounds-from-i
bounds-from-i c = search (copying_in, rules)

pub loop-i-preserved : goal.loop-i-preserved
loop-i-preserved c = search (copying_on, rules)
