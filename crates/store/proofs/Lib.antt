pub mod GateLaws
pub mod SettingsLaws
pub mod StoreLaws
pub mod LoadLaws
pub mod Theorems
pub mod LoadWork
pub mod CauseTheorems
pub mod NamedLaws
