pub mod Draws
pub mod Refusals
pub mod Causes
