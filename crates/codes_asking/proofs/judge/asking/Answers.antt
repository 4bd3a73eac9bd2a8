-- `asking`: each way out is the cause that holds first. Assumes nothing.
use Rattle.codes_asking.proofs.JudgeLaws.{ask_ready, held_below, ask_rows, ask_unsound, ask_let_pass}
use borrow.Author.Rules.{rules}
use mathlib.Core.Path.{ap}
use mathlib.Core.Bool.{not}
use Rattle.codes_asking.proofs.judge.asking.Goals as goal

pub kept_fit-requires : goal.kept_fit-requires
kept_fit-requires c = search (ask_rows, rules)

pub least_bad-bad-requires : goal.least_bad-bad-requires
least_bad-bad-requires c = record {
  ready = search (ask_ready, rules);
  few = search rules;
  long = search rules;
  below = held_below _ _ _ _ c.kept_fit.ensures (ap not c.if-not-kept_fit.false) c.if-count-gt64.false;
}

pub returns-then-bad-cells : goal.returns-then-bad-cells
returns-then-bad-cells c = search (ask_unsound, rules)

pub returns : goal.returns
returns c = search (ask_let_pass, rules)
