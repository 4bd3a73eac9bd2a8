-- `scaled_pixel`: a unit of four bytes times a byte is below 2 ^ 53, so its f64 is exact. Assumes nothing.
use Rattle.cell_reading.proofs.ReadingCalls.{pixel_turned, items_fit, items_exact, pixel_done}
use borrow.Author.Rules.{rules}
use Rattle.cell_reading.proofs.scaled_pixel.Goals as goal

pub returns-then-not-accepted : goal.returns-then-not-accepted
returns-then-not-accepted c = search (pixel_turned, rules)

pub overflow_mul-result : goal.overflow_mul-result
overflow_mul-result c = record { fits = search (items_fit, rules) }

pub int_to_float-result : goal.int_to_float-result
int_to_float-result c = search (items_exact, rules)

pub returns : goal.returns
returns c = search (pixel_done, rules)
