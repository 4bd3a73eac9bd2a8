pub mod VerdictCases
pub mod MoveLaws
pub mod ItemLaws
pub mod KeptLaws
