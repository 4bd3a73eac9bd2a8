-- `copy`: before i what is given, from i on what stood there.
use Rattle.codes_setting.proofs.SetLaws.{Copying}
use Rattle.codes_setting.proofs.copy.Given as goal

abbrev pub invariant-loop-i : goal.invariant-loop-i
invariant-loop-i g l = Copying l.given l.initial.kept l.kept l.i
