pub mod HeaderLaws
pub mod FieldWork
pub mod AnswerLaws
pub mod CauseTheorems
