pub mod VerdictLaws
pub mod GateLaws
pub mod CauseLaws
pub mod NamedLaws
