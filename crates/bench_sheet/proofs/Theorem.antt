-- The bench sheet holds: each item is computed from the definitions by the checker, in the crate that has them. Assumes nothing.
use Rattle.cell.proofs.BenchItems.{cell_items}
use Rattle.sketch.proofs.BenchItems.{sketch_items}
use Rattle.bench_sheet.specs.BenchSheet.{BenchSheet}

pub bench_sheet : BenchSheet
bench_sheet = record { cell = cell_items; sketch = sketch_items }
