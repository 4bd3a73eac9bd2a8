-- `read`: 1 to 7, and then what the key's cells say. Assumes nothing.
use Rattle.sketch_reading.proofs.ReadLaws.{keyed_grid, keyed_fits}
use borrow.Author.Rules.{rules}
use Rattle.sketch_reading.proofs.judge.read.Goals as goal

pub key_cells-requires : goal.key_cells-requires
key_cells-requires c = (search (keyed_grid, rules), search (keyed_fits, rules))
