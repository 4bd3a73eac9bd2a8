pub mod RowCases
pub mod RowLoops
