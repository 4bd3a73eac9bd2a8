pub mod Blocks
pub mod Workers
