-- `store_judging::judge::grid_bytes` meets its contract. Judged settings have a product that fits.
use Rattle.store_judging.proofs.JudgeWork.{cells_fit, bytes_fit, bytes_are}
use borrow.Author.Rules.{rules}
use Rattle.store_judging.proofs.judge.grid_bytes.Goals as goal

pub overflow_mul-result : goal.overflow_mul-result
overflow_mul-result c = record { fits = search (cells_fit, rules) }

pub overflow_mul-result-2 : goal.overflow_mul-result-2
overflow_mul-result-2 c = record { fits = search (bytes_fit, rules) }

pub returns : goal.returns
returns c = search (bytes_are, rules)
