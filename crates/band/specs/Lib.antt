pub mod Calls
pub mod Stages
pub mod Tally
pub mod Peak
pub mod Band
pub mod Lost
