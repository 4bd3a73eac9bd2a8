-- `zoom`: the largest of the cells before this one. Assumes nothing.
use Rattle.sketch_queries.proofs.HighestLaws.{Highest}
use Rattle.sketch.specs.Sketch.{cells_of}
use Rattle.sketch_queries.proofs.highest.zoom.Given as goal

abbrev pub invariant-loop-index : goal.invariant-loop-index
invariant-loop-index l = Highest l.sketch l.grid (cells_of l.sketch) l.index l.highest
