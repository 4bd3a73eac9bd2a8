-- `store_calls::save` meets its contract. Each way out is what the definition gives there; all is judged before `write`.
use Rattle.store_calls.proofs.SaveWork.{save_refused, save_ready, save_unsound, save_length, save_done}
use borrow.Author.Rules.{rules}
use Rattle.store_calls.proofs.save.Goals as goal

pub returns-then-not-accepted : goal.returns-then-not-accepted
returns-then-not-accepted c = search (save_refused, rules)

pub all_cells-cells-requires : goal.all_cells-cells-requires
all_cells-cells-requires c = search (save_ready, rules)

pub returns-then-not-accepted-2 : goal.returns-then-not-accepted-2
returns-then-not-accepted-2 c = search (save_unsound, rules)

pub returns-then-store-store_bytes : goal.returns-then-store-store_bytes
returns-then-store-store_bytes c = search (save_length, rules)

pub returns : goal.returns
returns c = search (save_done, rules)
