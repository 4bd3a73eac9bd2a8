pub mod CallLaws
pub mod ClockLaws
pub mod CauseTheorems
pub mod Examples
