pub mod SumLoops
pub mod SumCases
