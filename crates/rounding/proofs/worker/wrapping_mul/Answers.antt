-- `wrapping_mul`: each product of two halves fits 64 bits, and `halves` is the law. Assumes nothing.
use Rattle.rounding.proofs.ProductLaws.{product_lt, halves}
use native.Mathlib.Omega.{arith}
use borrow.Author.Rules.{rules}
use Rattle.rounding.proofs.worker.wrapping_mul.Goals as goal

pub overflow_mul-low : goal.overflow_mul-low
overflow_mul-low c = record { fits = product_lt 32 32 (search rules) (search rules) }

pub overflow_mul-cross : goal.overflow_mul-cross
overflow_mul-cross c = record { fits = product_lt 32 32 (search rules) (search rules) }

pub overflow_mul-cross-2 : goal.overflow_mul-cross-2
overflow_mul-cross-2 c = record { fits = product_lt 32 32 (search rules) (search rules) }

pub overflow_add-cross-2 : goal.overflow_add-cross-2
overflow_add-cross-2 c = omega (arith, overflow_mul-low c)

pub returns : goal.returns
returns c = halves c.args.a c.args.b
