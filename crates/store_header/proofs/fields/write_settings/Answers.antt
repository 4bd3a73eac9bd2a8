-- `store_header::fields::write_settings` meets its contract. Each field follows on the one before it.
use Rattle.store_header.proofs.FieldWork.{settings_written}
use borrow.Author.Rules.{rules}
use Rattle.store_header.proofs.fields.write_settings.Goals as goal

-- `search` stands outside the `let`: a name bound there is one more record for it to enter, and it enters 128
pub returns : goal.returns
returns c = (settings_written c.args.sketch _ _ _ _ _ _ _ _ _ c.kind.ensures c.from.ensures c.put_field-6.ensures c.put_field-5.ensures
    c.put_field-4.ensures c.put_field-3.ensures c.put_field-2.ensures c.put_field.ensures)
    (search rules)
