-- `all_fit`: the test of each sum is the one that `all_at_most` makes. Assumes nothing.
use Rattle.cell_merging_sums.proofs.SumCases.{all_most}
use Rattle.std.proofs.lemmas.Iterator.{YieldsList-from_slice}
use Rattle.std.proofs.lemmas.Iterator.Search.{all_from_yields_List}
use Rattle.std.proofs.Common.{tests}
use borrow.Author.Rules.{rules}
use lib.Dec.{leb}
use mathlib.Core.Path.{◌∙◌}
use Rattle.cell_merging_sums.proofs.worker.all_fit.Goals as goal

pub returns : goal.returns
returns c =
    all_from_yields_List (λ x. leb x 255) _ _ _ c.all.ensures.ran (YieldsList-from_slice c.args.sums.now cc) (λ x b q k. search (rules, tests)) ∙ all_most 255 c.args.sums.now
