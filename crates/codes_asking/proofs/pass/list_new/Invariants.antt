-- `list_new`: the codes before this one are listed. Assumes nothing.
use Rattle.codes_asking.proofs.PassLaws.{Passing}
use Rattle.codes_asking.proofs.pass.list_new.Given as goal

abbrev pub invariant-loop-code : goal.invariant-loop-code
invariant-loop-code l = Passing l.sketch l.columns l.limits l.grid l.before l.initial.list l.list l.listed l.reached l.code
