-- `load`: the load of the sketch, and no codes. Assumes nothing.
use Rattle.service.proofs.ServiceLaws.{start_served}
use borrow.Author.Rules.{rules}
use Rattle.service.proofs.load.Goals as goal

pub returns : goal.returns
returns c = search (start_served, rules)
