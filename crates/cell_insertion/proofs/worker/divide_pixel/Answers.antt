-- `worker::divide_pixel`: each way out divides what the pixel counts as, at most 256, by 2 or more. Assumes nothing.
use Rattle.cell_insertion.proofs.DividingLaws.{divided_bounds}
use native.Mathlib.Omega.{arith}
use borrow.Author.Rules.{rules}
use Rattle.cell_insertion.proofs.worker.divide_pixel.Goals as goal

pub returns-then-credited-clause-value_bound : goal.returns-then-credited-clause-value_bound
returns-then-credited-clause-value_bound c = divided_bounds 256 _ _ _ (omega arith) (search rules) c.divide_credited.ensures

pub returns-clause-value_bound : goal.returns-clause-value_bound
returns-clause-value_bound c = divided_bounds _ _ _ _ (omega arith) (search rules) c.divide.ensures
