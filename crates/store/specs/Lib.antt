pub mod Store
pub mod Refusals
pub mod Causes
pub mod Named
pub mod Workers
