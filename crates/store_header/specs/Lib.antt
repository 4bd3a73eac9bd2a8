pub mod Header
pub mod Refusals
pub mod Causes
pub mod Workers
