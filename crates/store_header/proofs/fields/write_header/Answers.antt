-- `store_header::fields::write_header` meets its contract. The settings, and the state behind them, make the header.
use Rattle.store_header.proofs.FieldWork.{header_written}
use borrow.Author.Rules.{rules}
use Rattle.store_header.proofs.fields.write_header.Goals as goal

pub returns : goal.returns
returns c = search (header_written, rules)
