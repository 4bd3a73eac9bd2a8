-- `carry_of`: two shutters are below two units, so one unit is all that they can make. Assumes nothing.
use Rattle.cell_merging.proofs.MergeCases.{unit_fits, rest_fits, carry_one, shutters_fit}
use borrow.Author.Rules.{rules}
use Rattle.cell_merging.proofs.merge.carry_of.Goals as goal

pub unit-unit-requires : goal.unit-unit-requires
unit-unit-requires c = (search rules, search rules, search (unit_fits, rules))

pub overflow_cast-result : goal.overflow_cast-result
overflow_cast-result c = record { fits = search (rest_fits, rules) }

pub returns-then-unit-shutters : goal.returns-then-unit-shutters
returns-then-unit-shutters c = search (carry_one, rules)

pub overflow_cast-result-2 : goal.overflow_cast-result-2
overflow_cast-result-2 c = record { fits = search (shutters_fit, rules) }
