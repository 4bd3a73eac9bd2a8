-- `audit`: it names the cell by which a verdict of 14 would turn a call back. Assumes nothing.
use Rattle.sketch_queries.proofs.AuditCases.{audit_refused, audit_sound, audit_unsound}
use Rattle.sketch_queries.proofs.HighestLaws.{passed_ready}
use borrow.Author.Rules.{rules}
use Rattle.sketch_queries.proofs.audit.Goals as goal

pub returns-then-not-accepted : goal.returns-then-not-accepted
returns-then-not-accepted c = search (audit_refused, rules)

pub all_cells-cells-requires : goal.all_cells-cells-requires
all_cells-cells-requires c = search (passed_ready, rules)

pub returns-then-accepted : goal.returns-then-accepted
returns-then-accepted c = search (audit_sound, rules)

pub returns : goal.returns
returns c = search (audit_unsound, rules)
