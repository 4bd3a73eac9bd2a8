pub mod BadLaws
pub mod JudgeLaws
pub mod PassLaws
