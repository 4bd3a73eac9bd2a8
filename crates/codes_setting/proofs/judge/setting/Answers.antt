-- `setting`: each way out is the cause that holds first. Assumes nothing.
use Rattle.codes_setting.proofs.SetLaws.{some_rows}
use borrow.Author.Rules.{rules}
use Rattle.codes_setting.proofs.judge.setting.Goals as goal

pub codes_fit-requires : goal.codes_fit-requires
codes_fit-requires c = search (some_rows, rules)
