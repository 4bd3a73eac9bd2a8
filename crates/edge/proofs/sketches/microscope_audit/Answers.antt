-- `microscope_audit`. Assumes nothing.
use Rattle.edge.proofs.EdgeLaws.{audit_told}
use borrow.Author.Rules.{rules}
use Rattle.edge.proofs.sketches.microscope_audit.Goals as goal

pub returns : goal.returns
returns c = search (audit_told, rules)
