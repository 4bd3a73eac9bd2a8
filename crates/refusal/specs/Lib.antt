pub mod Refusals
pub mod Causes
pub mod Named
