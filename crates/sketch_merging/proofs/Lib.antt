pub mod VerdictCases
pub mod MergePass
pub mod MergeCases
pub mod MergedLaws
