-- `kept_fit`: each way out is one part of the test. Assumes nothing.
use Rattle.codes_asking.proofs.JudgeLaws.{fit_none, fit_rows, fit_columns}
use borrow.Author.Rules.{rules}
use Rattle.codes_asking.proofs.judge.kept_fit.Goals as goal

pub returns-then-watch-eq0 : goal.returns-then-watch-eq0
returns-then-watch-eq0 c = search (fit_none, rules)

pub returns-then-watch-sketch : goal.returns-then-watch-sketch
returns-then-watch-sketch c = search (fit_rows, rules)

pub returns : goal.returns
returns c = search (fit_columns, rules)
