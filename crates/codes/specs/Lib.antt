pub mod Codes
pub mod Refusals
pub mod Causes
pub mod Acceptance
pub mod Askings
pub mod Named
pub mod Examples
