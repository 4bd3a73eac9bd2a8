-- `bucket_slice`: what the check accepts has a cell in the grid, and the part is that cell. Assumes nothing.
use Rattle.sketch_queries.proofs.BucketLaws.{bucket_none, bucket_ready, bucket_row, bucket_col, bucket_rows, bucket_cols, bucket_is}
use borrow.Author.Rules.{rules}
use Rattle.sketch_queries.proofs.bucket_slice.Goals as goal

pub returns-then-not-accepted : goal.returns-then-not-accepted
returns-then-not-accepted c = search (bucket_none, rules)

pub cell_index-requires : goal.cell_index-requires
cell_index-requires c = (search (bucket_row, rules), search (bucket_col, rules), search (bucket_rows, rules), search (bucket_cols, rules))

pub start_of-start-requires : goal.start_of-start-requires
start_of-start-requires c = (search (bucket_ready, rules), search rules)

pub returns : goal.returns
returns c = search (bucket_is, rules)
