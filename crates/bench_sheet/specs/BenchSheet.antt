-- Document 01, "Bench sheet": items 1 to 10 as one joint statement over the definitions that the contracts cite.
use Rattle.cell.specs.BenchSheet.{CellItems}
use Rattle.sketch.specs.BenchSheet.{SketchItems}

-- items 1 to 9 (one cell), item 10 (a sketch), and the item of two rows beside them
pub record BenchSheet : Type 0 where
  pub cell : CellItems
  pub sketch : SketchItems
